-- What the laws claim of what workers read and publish.
use Rattle.std.specs.Prelude.{◌≡◌, ℕ, ◌<◌, ◌≤◌, List, Some, None, ◌⊎◌}
use Rattle.spec_index.specs.World.{Slot, Version, batch, numbered, serving}
use Rattle.spec_server.specs.Courses.{Held, Machine, Replied, same_machine}
use Rattle.spec_server.specs.Workers.{held_by}
use Rattle.spec_server.specs.Replies.{Reply}
use Rattle.spec_server.specs.Sound.{Has}
use Rattle.raven_laws.specs.Definitions.{IsNoIndex}

-- what all other workers hold stays as it was
abbrev pub OthersHold : Machine → ℕ → Machine → Type 0
OthersHold M worker N = (other : ℕ) → (other ≡ worker → ⊥) → held_by N.held other ≡ held_by M.held other

-- READING

-- there is nothing to read: the reply has the etag of the index twice, and the worker holds nothing
pub record ReadsNothing (M : Machine) (worker max : ℕ) (name : List ℕ) (replied : Replied) : Type 0 where
  pub slot : Slot
  pub serves : serving M.world.slots name ≡ Some slot
  pub idle : batch slot.version M.world.store max ≡ None
  pub reply : replied.reply ≡ Reply.Held slot.version.etag slot.version.etag
  pub world : replied.machine.world ≡ M.world
  pub holds : held_by replied.machine.held worker ≡ None
  pub others : OthersHold M worker replied.machine

-- the worker holds the batch for the index of this name, and no index has changed
pub record ReadsABatch (M : Machine) (worker max : ℕ) (name : List ℕ) (replied : Replied) : Type 0 where
  pub slot : Slot
  pub serves : serving M.world.slots name ≡ Some slot
  pub version : Version
  pub read : batch slot.version M.world.store max ≡ Some version
  pub reply : replied.reply ≡ Reply.Held slot.version.etag version.etag
  pub world : replied.machine.world ≡ M.world
  pub holds : held_by replied.machine.held worker ≡ Some (record { worker = worker; number = slot.number; version = version })
  pub others : OthersHold M worker replied.machine

abbrev pub IsReadAnswer : Machine → ℕ → ℕ → List ℕ → Replied → Type 0
IsReadAnswer M worker max name replied = IsNoIndex M name replied ⊎ (ReadsNothing M worker max name replied ⊎ ReadsABatch M worker max name replied)

-- PUBLISHING

pub record HoldsNothing (M : Machine) (worker : ℕ) (replied : Replied) : Type 0 where
  pub none : held_by M.held worker ≡ None
  pub reply : replied ≡ same_machine M Reply.NothingHeld

-- whatever becomes of its batch, the worker then holds nothing
pub record LetsGo (M : Machine) (worker : ℕ) (replied : Replied) : Type 0 where
  pub holds : held_by replied.machine.held worker ≡ None
  pub others : OthersHold M worker replied.machine

-- the index of the batch is gone, and no index changes
pub record IsGone (M : Machine) (worker : ℕ) (replied : Replied) : Type 0 where
  pub batch : Held
  pub held : held_by M.held worker ≡ Some batch
  pub gone : numbered M.world.slots batch.number ≡ None
  pub reply : replied.reply ≡ Reply.Gone batch.number
  pub world : replied.machine.world ≡ M.world
  pub lets : LetsGo M worker replied

-- the index of the batch is as far already, and no index changes
pub record IsPassed (M : Machine) (worker : ℕ) (replied : Replied) : Type 0 where
  pub batch : Held
  pub held : held_by M.held worker ≡ Some batch
  pub slot : Slot
  pub live : numbered M.world.slots batch.number ≡ Some slot
  pub passed : batch.version.etag ≤ slot.version.etag
  pub reply : replied.reply ≡ Reply.Passed slot.version.etag
  pub world : replied.machine.world ≡ M.world
  pub lets : LetsGo M worker replied

-- Tombstones past the batch were cleaned since it was read, so that it may have a document that is gone. No index changes.
pub record IsCleaned (M : Machine) (worker : ℕ) (replied : Replied) : Type 0 where
  pub batch : Held
  pub held : held_by M.held worker ≡ Some batch
  pub slot : Slot
  pub live : numbered M.world.slots batch.number ≡ Some slot
  pub ahead : slot.version.etag < batch.version.etag
  pub since : batch.version.cleaned < M.world.store.cleaned
  pub past : batch.version.etag < M.world.store.cleaned
  pub reply : replied.reply ≡ Reply.Cleaned M.world.store.cleaned
  pub world : replied.machine.world ≡ M.world
  pub lets : LetsGo M worker replied

-- Nothing past the batch was cleaned since it was read, and its version takes the place of that of its index, which is further back. The reply has the
-- name of the index and its etag as they were just before. All other indexes, the store and the notes stay as they were.
pub record IsPublished (M : Machine) (worker : ℕ) (replied : Replied) : Type 0 where
  pub batch : Held
  pub held : held_by M.held worker ≡ Some batch
  pub slot : Slot
  pub live : numbered M.world.slots batch.number ≡ Some slot
  pub ahead : slot.version.etag < batch.version.etag
  pub current : (M.world.store.cleaned ≤ batch.version.cleaned) ⊎ (M.world.store.cleaned ≤ batch.version.etag)
  pub reply : replied.reply ≡ Reply.Published slot.version.etag slot.name batch.version.etag
  pub brought : numbered replied.machine.world.slots batch.number ≡ Some (record { number = slot.number; name = slot.name; version = batch.version; row = slot.row })
  pub kept : (s : Slot) → Has M.world.slots s → (s.number ≡ batch.number → ⊥) → Has replied.machine.world.slots s
  pub no_more : (s : Slot) → Has replied.machine.world.slots s → (s.number ≡ batch.number → ⊥) → Has M.world.slots s
  pub store : replied.machine.world.store ≡ M.world.store
  pub notes : replied.machine.world.notes ≡ M.world.notes
  pub lets : LetsGo M worker replied

abbrev pub IsPublishAnswer : Machine → ℕ → Replied → Type 0
IsPublishAnswer M worker replied =
    HoldsNothing M worker replied ⊎ (IsGone M worker replied ⊎ (IsPassed M worker replied ⊎ (IsCleaned M worker replied ⊎ IsPublished M worker replied)))
