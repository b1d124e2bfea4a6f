-- The live indexes of a database, with the notes of their switches.
use Rattle.std.specs.Prelude.{List, refl}
use Rattle.std.specs.Coded.{Coded, coded_list, coded×, code_by}
use Rattle.spec_index.specs.Codes.{slot_code, note_code}
use Rattle.spec_index.specs.World.{Slot, Note, World}
use Rattle.spec_store.specs.Commit.{Setting}
use Rattle.spec_store.specs.Store.{Store}

pub record Standing : Type 0 where
  pub slots : List Slot
  pub notes : List Note

abbrev pub standing_code : Coded Standing
standing_code = code_by (List Slot × List Note) (coded× (coded_list slot_code) (coded_list note_code)) (λ s. (s.slots, s.notes)) (λ p. record { slots = p.0; notes = p.1 }) (λ _. refl)

-- these notes, with other indexes
abbrev pub with_slots : Standing → List Slot → Standing
with_slots standing slots = record { slots = slots; notes = standing.notes }

-- the database of this store with these indexes
abbrev pub world_of : Setting → Store → Standing → World
world_of setting S standing = record { setting = setting; store = S; slots = standing.slots; notes = standing.notes }
