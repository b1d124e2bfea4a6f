-- How indexes catch up by batches, and how tombstones go that no index has to read any more.
use Rattle.std.specs.Prelude.{ℕ, List, [], ◌∷◌, if◌then◌else◌, Option, Some, None, length, map}
use Rattle.spec_store.specs.Store.{Store}
use Rattle.spec_store.specs.Cleaning.{old_tombstones}
use Rattle.spec_server.specs.Replies.{Pumped, Pumping, NoIndex}
use Rattle.spec_server.specs.Replies as replies
use Rattle.spec_index.specs.World.{Version, Slot, World, batch, serving, is_named}
use Rattle.spec_index.specs.Cleaning.{clean_upto, cleaned_world}
use Rattle.spec_server.specs.Courses.{cleaning, Course, only_reply, one_change, with_slots}

abbrev pub or_as_before : Version → Option Version → Version
or_as_before v None = v
or_as_before v (Some new) = new

-- the slot after one batch; as it was if there is nothing to take
abbrev pub after_batch : Store → ℕ → Slot → Slot
after_batch S max s = record { number = s.number; name = s.name; version = or_as_before s.version (batch s.version S max); row = s.row }

abbrev pub pumping : Store → ℕ → Slot → Pumping
pumping S max s = record { from = s.version.etag; index = s.name; to = (after_batch S max s).version.etag }

-- one batch for each slot, in order of number
abbrev pub pump : World → ℕ → Course
pump W max = one_change (Pumped (map (pumping W.store max) W.slots)) [] (with_slots W (map (after_batch W.store max) W.slots))

abbrev pub after_batch_if_named : Store → ℕ → List ℕ → Slot → Slot
after_batch_if_named S max name s = if is_named name s then after_batch S max s else s

-- one batch for the slot that serves the name
abbrev pub pump_at : World → ℕ → List ℕ → Option Slot → Course
pump_at W max name None = only_reply (NoIndex name)
pump_at W max name (Some s) =
    one_change (Pumped (pumping W.store max s ∷ [])) [] (with_slots W (map (after_batch_if_named W.store max name) W.slots))

abbrev pub pump_for : World → ℕ → Option (List ℕ) → Course
pump_for W max None = pump W max
pump_for W max (Some name) = pump_at W max name (serving W.slots name)

-- CLEANING, of which the keeper is asked if a tombstone goes

abbrev pub clean_course : World → Course
clean_course W =
    let gone = old_tombstones (clean_upto W) W.store.rows in
    record { changes = cleaning gone (clean_upto W) (cleaned_world W) ∷ []; reply = replies.CleanDone (length gone) (clean_upto W) }
