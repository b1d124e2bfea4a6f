-- What the answers of the program say of a change of indexes.
use Rattle.std.specs.Prelude.{◌≡◌, ℕ, List, true, false, map, IfSome, Option, Some, None, Result, Ok, Err}
use Rattle.spec_index.specs.World as is
use Rattle.spec_index.specs.World.{World, Slot, begins_with_auto, define, define_named, is_automatic, serving}
use Rattle.spec_store.specs.Commit.{Setting, Writer, Client, Server}
use Rattle.spec_store.specs.Store.{Store, last}
use Rattle.index_tree.specs.Definitions.{Definition}
use Rattle.doc_txn.specs.CommandView.{command_view}
use Rattle.spec_index.specs.Optimiser.{retired, retirement}
use Rattle.side_by_side.specs.Standing.{Standing, world_of}
use Rattle.side_by_side.specs.declared.change.SlotChange.{SlotChange}
use Rattle.side_by_side.specs.declared.retire.Retirement.{Retirement}
use Rattle.side_by_side.specs.declared.change.SlotRefusal.{SlotRefusal}
use Rattle.side_by_side.specs.declared.change.SlotRefusal.TheVariants as refusal

abbrev pub change_view : SlotChange → is.SlotChange
change_view c = record { slots = c.slots.slots; notes = c.slots.notes; commands = map command_view c.commands; name = c.name }

-- a change, or a refusal; nothing if no memory was found
abbrev pub answer_view : Result SlotChange SlotRefusal → Option (Result is.SlotChange is.SlotRefusal)
answer_view (Ok c) = Some (Ok (change_view c))
answer_view (Err refusal.NoIndex) = Some (Err is.NoIndex)
answer_view (Err refusal.TooManyIndexes) = Some (Err is.TooManyIndexes)
answer_view (Err (refusal.NotFresh index_etag newest)) = Some (Err (is.NotFresh index_etag newest))
answer_view (Err refusal.NoReplacement) = Some (Err is.NoReplacement)
answer_view (Err refusal.NotesFull) = Some (Err is.NotesFull)
answer_view (Err refusal.ReservedName) = Some (Err is.ReservedName)
answer_view (Err (refusal.NameTooLong len)) = Some (Err (is.NameTooLong len))
answer_view (Err refusal.NoMemory) = None

-- with so many slots at most, and where the last etag is this one, the answer is this change of a world of these indexes
abbrev pub Changes : ℕ → ℕ → Standing → (World → Result is.SlotChange is.SlotRefusal) → Result SlotChange SlotRefusal → Type 0
Changes most latest standing change answer = (setting : Setting) (S : Store) → setting.max_slots ≡ most → last S ≡ latest →
    IfSome (answer_view answer) (λ c. c ≡ change (world_of setting S standing))

-- a client defines an index of a name that it chose, the server one of a name that is free
abbrev pub define_by : Writer → World → List ℕ → Definition → Result is.SlotChange is.SlotRefusal
define_by Client = define_named
define_by Server = define

-- what such a definition makes of a world
abbrev pub defines : Writer → List ℕ → Definition → World → Result is.SlotChange is.SlotRefusal
defines writer name d W = define_by writer W name d

-- Who may define this under this name: a client what is not automatic, the server an automatic index, whose name begins as that of one and
-- serves no other.
abbrev pub MayDefine : Writer → List Slot → List ℕ → Definition → Type 0
MayDefine Client slots name d = is_automatic d ≡ false
MayDefine Server slots name d = (is_automatic d ≡ true) × (begins_with_auto name ≡ true) × (serving slots name ≡ None)

-- what is retired of the indexes of a world
pub record IsRetirement (W : World) (r : Retirement) : Type 0 where
  pub slots : r.slots.slots ≡ (retirement W).slots
  pub notes : r.slots.notes ≡ (retirement W).notes
  pub commands : map command_view r.commands ≡ (retirement W).commands
  pub names : r.names.items ≡ map (λ s. s.name) (retired W.slots)
