-- What an evaluation in the program has come to.
use Rattle.std.specs.Prelude.{◌≡◌, ℕ, List, map, reverse, Bool, if◌then◌else◌, Option, Some, None, option_map}
use Rattle.spec_data.specs.Data.{Data}
use Rattle.spec_data.specs.Folding.{folded}
use Rattle.raven_value.specs.declared.id.Id.{Id}
use Rattle.index_tree.specs.Asking.{Lookup, Asking, after}
use Rattle.index_tree.specs.Evaluate.{Bindings, evaluate}
use Rattle.index_tree.specs.Trees.{Tree}
use Rattle.map_stage.specs.declared.held.Held.{Held}
use Rattle.map_stage.specs.declared.scene.Binding.{Binding}
use Rattle.map_stage.specs.HeldView.{held_of}

-- a name and its value
abbrev pub binding_of : Binding → List ℕ × Data
binding_of b = (b.name.now, held_of b.value)

-- the latest is last
abbrev pub bindings_of : List Binding → List (List ℕ × Data)
bindings_of bound = reverse (map binding_of bound)

-- the value, if there is one, and all ids asked for so far
abbrev pub reached : Option Held → List Id → Asking Data
reached held asked = record { outcome = option_map held_of held; loads = map folded asked }

-- the computation, if the ids were asked for before
abbrev pub from_there : {A : Type 0} → List Id → Asking A → Asking A
from_there asked c = after (map folded asked) c

-- the computation was done: from these ids on it has come to that value, and to those ids
abbrev pub Does : Asking Data → List Id → List Id → Option Held → Type 0
Does c old new held = reached held new ≡ from_there old c

-- the value of an expression under the names
abbrev pub value_under : Lookup → List Binding → Tree → Asking Data
value_under find bound tree = evaluate find (bindings_of bound) tree

-- the names and their values, if the map goes on
abbrev pub bound_if : List Binding → Bool → Option Bindings
bound_if bound goes = if goes then Some (bindings_of bound) else None
