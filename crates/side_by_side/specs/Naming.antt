-- The name of a slot and that in its definition, and the numbers of slots.
use Rattle.std.specs.Prelude.{◌≡◌, ◌<◌, ◌≤◌, ℕ, List, [], ◌∷◌, false, length}
use Rattle.spec_data.specs.Faults.{replacement_of}
use Rattle.spec_data.specs.Folding.{folded}
use Rattle.spec_data.specs.Limits.{max_index_name}
use Rattle.index_version.specs.Named.{NamedVersion}
use Rattle.spec_index.specs.World.{Slot, begins_with_replacement, replaced_name}

-- The definition has the slot's name, or the name that the slot is to take if it is a replacement. Names are compared without regard to case.
pub record IsNamedAs (name definition : List ℕ) : Type 0 where
  pub same : folded definition ≡ folded (replaced_name name)
  pub plain : begins_with_replacement definition ≡ false

-- the index of the slot may have this version next: it is of the same definition, which has the slot's name
abbrev pub IsVersionOf : NamedVersion → Slot → Type 0
IsVersionOf version slot = (slot.version.definition ≡ version.version.definition) × IsNamedAs slot.name version.name

-- a client may give a definition this name, and the slot of that name serves it
pub record IsServedBy (definition name : List ℕ) : Type 0 where
  pub same : folded definition ≡ folded name
  pub plain : begins_with_replacement definition ≡ false
  pub short : length name ≤ max_index_name

-- each slot of this number has a name of which P holds
abbrev pub IfNumbered : ℕ → (List ℕ → Type 0) → List Slot → Type 0
IfNumbered n P [] = Unit {0}
IfNumbered n P (s ∷ slots) = (s.number ≡ n → P s.name) × IfNumbered n P slots

-- the numbers rise from above `low`, and none is past `last`
abbrev pub RiseTo : ℕ → ℕ → List Slot → Type 0
RiseTo low last [] = low ≤ last
RiseTo low last (s ∷ slots) = (low < s.number) × RiseTo s.number last slots

-- each slot of this number is the replacement of the index of this name
abbrev pub AreBeside : ℕ → List ℕ → List Slot → Type 0
AreBeside n name slots = IfNumbered n (λ x. folded x ≡ folded (replacement_of name)) slots

-- each slot of this number may have a definition of this name
abbrev pub AreNamedAs : ℕ → List ℕ → List Slot → Type 0
AreNamedAs n definition slots = IfNumbered n (λ x. IsNamedAs x definition) slots
