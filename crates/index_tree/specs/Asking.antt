-- Computations that look documents up and may fail.
use Rattle.std.specs.Prelude.{◌≡◌, ℕ, List, [], ◌∷◌, ◌++◌, Option, Some, None}
use Rattle.spec_data.specs.Rows.{Row}

-- the row of a folded id, if there is one
abbrev pub Lookup : Type 0
Lookup = List ℕ → Option Row

-- the result of a computation, which is nothing if it failed, and the folded ids that it asked for, in order
pub record Asking (A : Type 0) : Type 0 where
  pub outcome : Option A
  pub loads : List (List ℕ)

abbrev pub from : {A : Type 0} → Option A → Asking A
from outcome = record { outcome = outcome; loads = [] }

abbrev pub gives : {A : Type 0} → A → Asking A
gives a = from (Some a)

-- the ids were asked for before
abbrev pub after : {A : Type 0} → List (List ℕ) → Asking A → Asking A
after asked c = record { outcome = c.outcome; loads = asked ++ c.loads }

-- what goes on from an outcome; a failure ends the computation
abbrev pub goes_on : {A B : Type 0} → Option A → (A → Asking B) → Asking B
goes_on None more = from None
goes_on (Some a) more = more a

-- one computation after another
infixl 4 ◌>>=◌
abbrev pub ◌>>=◌ : {A B : Type 0} → Asking A → (A → Asking B) → Asking B
c >>= more = after c.loads (goes_on c.outcome more)

-- two lookups give the same for these ids
abbrev pub AgreeAt : List (List ℕ) → Lookup → Lookup → Type 0
AgreeAt [] find other = Unit {0}
AgreeAt (id ∷ ids) find other = (find id ≡ other id) × AgreeAt ids find other
