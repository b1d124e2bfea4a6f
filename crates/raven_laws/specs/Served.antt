-- What a step does to the index that serves a name.
use Rattle.std.specs.Prelude.{◌≡◌, ℕ, ◌+◌, List, [], ◌∷◌, ◌++◌, true, false, Some, None, ◌⊎◌, filter, map, not}
use Rattle.spec_data.specs.Faults.{replacement_of}
use Rattle.spec_data.specs.Folding.{folded}
use Rattle.spec_store.specs.Store.{last}
use Rattle.spec_index.specs.Optimiser as optimiser
use Rattle.spec_index.specs.World.{Note, Slot, World, begins_with_replacement, is_automatic, is_stale, named_anew, serving, switch_note}
use Rattle.spec_server.specs.Requests.{Do, Keeping, Line, Remove, Tidy}
use Rattle.spec_server.specs.Courses.{Machine, Replied}
use Rattle.spec_server.specs.Indexing.{replaced_names}
use Rattle.spec_server.specs.Machine.{step}
use Rattle.spec_server.specs.Replies.{Reply}
use Rattle.spec_server.specs.Sound.{Continues, Has, LaterW}

-- an index of the same number and definition serves the name, no further back
pub record StillServes (W : World) (name : List ℕ) (s : Slot) : Type 0 where
  pub slot : Slot
  pub serves : serving W.slots name ≡ Some slot
  pub continues : Continues s slot

-- the line removes the index of this name, and the reply says that it is removed
pub record IsRemovedBy (line : Line) (reply : Reply) (name : List ℕ) (s : Slot) : Type 0 where
  pub given : List ℕ
  pub asked : line ≡ Do (Remove given)
  pub same : folded given ≡ folded name
  pub removed : reply ≡ Reply.Removed s.name

-- the line is TIDY, the index is automatic, and the reply says that it is retired
pub record IsRetiredBy (line : Line) (reply : Reply) (s : Slot) : Type 0 where
  pub asked : line ≡ Do Tidy
  pub automatic : is_automatic s.version.definition ≡ true
  pub retired : List (List ℕ)
  pub switched : List (List ℕ)
  pub told : reply ≡ Reply.Tidied retired switched
  pub among : Has retired s.name

-- From W to V the name is switched from s to the replacement of s, which is not stale on the very store of W, and keeps its number and all that it
-- has recorded. The note of the switch has both numbers that were compared.
pub record IsSwitch (W V : World) (name : List ℕ) (s : Slot) : Type 0 where
  pub new : Slot
  pub built : serving W.slots (replacement_of s.name) ≡ Some new
  pub fresh : is_stale W.store new ≡ false
  pub serves : serving V.slots name ≡ Some (named_anew s.name (last W.store + 1) new)
  pub noted : V.notes ≡ W.notes ++ switch_note W s new ∷ []

-- on the way from W to V the name was switched, from the index that served it in W
pub record WasSwitched (W V : World) (name : List ℕ) (s : Slot) : Type 0 where
  pub before : World
  pub after : World
  pub earlier : LaterW W before
  pub old : Slot
  pub served : serving before.slots name ≡ Some old
  pub continues : Continues s old
  pub switch : IsSwitch before after name old
  pub later : LaterW after V

abbrev pub StaysOrGoes : World → Line → Replied → List ℕ → Slot → Type 0
StaysOrGoes W line replied name s =
    StillServes replied.machine.world name s
    ⊎ (IsRemovedBy line replied.reply name s ⊎ (IsRetiredBy line replied.reply s ⊎ WasSwitched W replied.machine.world name s))

-- The index that serves a name, other than that of a replacement, goes on to serve it, unless the line removes it, or it is retired, or the name is
-- switched to a replacement that is fresh.
abbrev pub ServedStays : Machine → Keeping → ℕ → Line → Type 0
ServedStays M k now line = (name : List ℕ) (s : Slot) → begins_with_replacement name ≡ false → serving M.world.slots name ≡ Some s
    → StaysOrGoes M.world line (step M k now line) name s

-- WHAT A TIDY TELLS

-- the first list is what is left of the second, in the same order, without some of its elements
abbrev pub IsPartOf : {X : Type 0} → List X → List X → Type 0
IsPartOf xs [] = xs ≡ []
IsPartOf {X} xs (y ∷ ys) = IsPartOf xs ys ⊎ ((more : List X) × (xs ≡ y ∷ more) × IsPartOf more ys)

-- In a world on the way, after which no name was switched, these are the names of all indexes that others outdo, in order. All others are left.
pub record IsRetirement (W V : World) (gone : List (List ℕ)) : Type 0 where
  pub before : World
  pub earlier : LaterW W before
  pub notes : V.notes ≡ before.notes
  pub all : gone ≡ map (λ s. s.name) (optimiser.retired before.slots)
  pub left : V.slots ≡ filter (λ s. not (optimiser.is_retired before.slots s)) before.slots

-- The names that the reply has as switched are those of the notes that the TIDY added, in order: all that it switched, and nothing else. They come in
-- the order in which the names are tried. Each was switched on the way. The names that the reply has as retired are those of all indexes that others
-- outdo once the switches are made. None of them is served any more.
pub record TidyTells (W V : World) (gone told : List (List ℕ)) : Type 0 where
  pub noted : List Note
  pub notes : V.notes ≡ W.notes ++ noted
  pub all : told ≡ map (λ n. n.name) noted
  pub order : IsPartOf (map folded told) (map folded (replaced_names W))
  pub switches : (name : List ℕ) → Has told name → (s : Slot) × WasSwitched W V name s
  pub retirement : IsRetirement W V gone
  pub retires : (name : List ℕ) → Has gone name → serving V.slots name ≡ None

abbrev pub TidyIsAnswered : Machine → Keeping → ℕ → Type 0
TidyIsAnswered M k now = (gone told : List (List ℕ)) → (step M k now (Do Tidy)).reply ≡ Reply.Tidied gone told
    → TidyTells M.world (step M k now (Do Tidy)).machine.world gone told
