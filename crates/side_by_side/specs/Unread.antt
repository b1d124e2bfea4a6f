-- Indexes that have read nothing.
use Rattle.std.specs.Prelude.{Bool, ◌&&◌, ◌==◌}
use Rattle.std.specs.List.{list_any}
use Rattle.spec_store.specs.Store.{Store}
use Rattle.spec_index.specs.World.{Slot, World, is_stale}

-- the index has read nothing yet, though the store has something for it
abbrev pub is_unread : Store → Slot → Bool
is_unread S s = s.version.etag == 0 && is_stale S s

-- there is such an index
abbrev pub has_unread : World → Bool
has_unread W = list_any (is_unread W.store) W.slots
