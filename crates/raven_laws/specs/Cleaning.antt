-- What the laws claim of a cleaning.
use Rattle.std.specs.Prelude.{◌≡◌, ◌↔◌, ◌≤◌, ◌<◌, ◌-◌, ℕ, List, ◌++◌, true, false, length, Some, ◌⊎◌}
use Rattle.spec_data.specs.Rows.{Row, is_document}
use Rattle.spec_store.specs.Store.{Store, row_at, last}
use Rattle.spec_store.specs.Cleaning.{old_tombstones}
use Rattle.spec_index.specs.Cleaning.{clean_upto}
use Rattle.spec_index.specs.World.{Slot, World}
use Rattle.spec_server.specs.Requests.{Clean, Do, Event, Keeping}
use Rattle.spec_server.specs.Courses.{Machine, Replied, is_taken}
use Rattle.spec_server.specs.Machine.{run, step}
use Rattle.spec_server.specs.Replies.{Reply}
use Rattle.spec_server.specs.Sound.{Has}
use Rattle.raven_laws.specs.Writes.{IsKeeperFault}

-- the row is a tombstone with an etag of at most `upto`
pub record IsOld (upto : ℕ) (r : Row) : Type 0 where
  pub deleted : is_document r ≡ false
  pub old : r.etag ≤ upto

-- the number is at most the etag of each index that has read something, and is below the etag of the last row, or 0
pub record IsReached (W : World) (n : ℕ) : Type 0 where
  pub below : n ≤ last W.store - 1
  pub by_all : (s : Slot) → Has W.slots s → 0 < s.version.etag → n ≤ s.version.etag

-- Exactly the old tombstones went, and the reply has their number. The etag of the last row, the indexes, the notes and what workers hold stay as
-- they were.
pub record IsCleanDone (M : Machine) (k : Keeping) (replied : Replied) : Type 0 where
  pub taken : is_taken k.takes (old_tombstones (clean_upto M.world) M.world.store.rows) ≡ true
  pub reply : replied.reply ≡ Reply.CleanDone (length (old_tombstones (clean_upto M.world) M.world.store.rows)) (clean_upto M.world)
  pub rows : (q : List ℕ) (r : Row) → (row_at q replied.machine.world.store.rows ≡ Some r) ↔ ((row_at q M.world.store.rows ≡ Some r) × (IsOld (clean_upto M.world) r → ⊥))
  pub last_stays : last replied.machine.world.store ≡ last M.world.store
  pub slots : replied.machine.world.slots ≡ M.world.slots
  pub notes : replied.machine.world.notes ≡ M.world.notes
  pub held : replied.machine.held ≡ M.held

abbrev pub CleanIsAnswered : Machine → Keeping → ℕ → Type 0
CleanIsAnswered M k now = let replied = step M k now (Do Clean) in IsKeeperFault M k replied ⊎ IsCleanDone M k replied

-- In one of the states the id had a tombstone, up to the etag up to which the last state was cleaned.
pub record WasDeleted (M : Machine) (events : List Event) (q : List ℕ) : Type 0 where
  pub before : List Event
  pub more : List Event
  pub split : events ≡ before ++ more
  pub tombstone : Row
  pub there : row_at q (run before M).world.store.rows ≡ Some tombstone
  pub deleted : is_document tombstone ≡ false
  pub cleaned : tombstone.etag ≤ (run events M).world.store.cleaned

-- the row stands, or its id has a newer row, or the store was cleaned at least up to the row
abbrev pub Stands : Store → List ℕ → Row → Type 0
Stands N q r = (row_at q N.rows ≡ Some r) ⊎ (((x : Row) × (row_at q N.rows ≡ Some x) × (r.etag < x.etag)) ⊎ (r.etag ≤ N.cleaned))
