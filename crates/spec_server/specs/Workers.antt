-- What workers read and publish, each of which holds at most one batch.
use Rattle.std.specs.Prelude.{ℕ, List, [], ◌∷◌, ◌++◌, Bool, not, ◌&&◌, ◌==◌, nat_lt, if◌then◌else◌, Option, Some, None, Result, Ok, Err, filter, find, map}
use Rattle.spec_store.specs.Store.{Store}
use Rattle.spec_server.specs.Replies.{Reply, NoIndex, UnknownLine}
use Rattle.spec_server.specs.Replies as replies
use Rattle.spec_index.specs.World.{Version, Slot, World, batch, numbered}
pub use Rattle.spec_index.specs.World.{with_version}
use Rattle.spec_server.specs.Courses.{Held, Machine, with_world, Replied, same_machine, with_slots}

-- the batch that the worker holds
abbrev pub held_by : List Held → ℕ → Option Held
held_by held worker = find (λ h. h.worker == worker) held

-- the worker holds nothing
abbrev pub let_go : Machine → ℕ → Machine
let_go M worker = record { world = M.world; held = filter (λ h. not (h.worker == worker)) M.held }

-- the worker holds this, and nothing that it held before
abbrev pub with_held : Machine → Held → Machine
with_held M h = record { world = M.world; held = (let_go M h.worker).held ++ h ∷ [] }

-- if there is nothing to read, the worker holds nothing
abbrev pub read_batch : Machine → ℕ → Slot → Option Version → Replied
read_batch M worker s None = record { reply = replies.Held s.version.etag s.version.etag; machine = let_go M worker }
read_batch M worker s (Some v) = record {
  reply = replies.Held s.version.etag v.etag;
  machine = with_held M (record { worker = worker; number = s.number; version = v });
}

-- without an index of this name the worker holds what it held
abbrev pub read_at : Machine → ℕ → ℕ → List ℕ → Option Slot → Replied
read_at M worker max index None = same_machine M (NoIndex index)
read_at M worker max index (Some s) = read_batch M worker s (batch s.version M.world.store max)

-- PUBLICATIONS

-- why a batch is not published: its index is gone; or has this etag, which is no less than that of the batch; or tombstones past the batch were
-- cleaned since it was read
pub data PublishRefusal : Type 0 where
  Gone : (number : ℕ) → PublishRefusal
  Passed : (now : ℕ) → PublishRefusal
  Cleaned : (upto : ℕ) → PublishRefusal

-- more of the store was cleaned than of the one that the version has read, and past the version's etag
abbrev pub was_cleaned : Store → Version → Bool
was_cleaned S v = nat_lt v.cleaned S.cleaned && nat_lt v.etag S.cleaned

-- the version takes the place of that of the index of this number, unless rows that it may lack were cleaned
abbrev pub put_in : World → ℕ → Version → Result World PublishRefusal
put_in W n v = if was_cleaned W.store v then Err (Cleaned W.store.cleaned) else Ok (with_slots W (map (with_version n v) W.slots))

abbrev pub published_in : World → ℕ → Version → Option Slot → Result World PublishRefusal
published_in W n v None = Err (Gone n)
published_in W n v (Some s) = if nat_lt s.version.etag v.etag then put_in W n v else Err (Passed s.version.etag)

-- the world in which the version is published
abbrev pub published : World → ℕ → Version → Result World PublishRefusal
published W n v = published_in W n v (numbered W.slots n)

abbrev pub publish_refused : PublishRefusal → Reply
publish_refused (Gone number) = replies.Gone number
publish_refused (Passed now) = replies.Passed now
publish_refused (Cleaned upto) = replies.Cleaned upto

-- the reply has the name and the etag of the index as they were just before
abbrev pub published_reply : Version → Option Slot → Reply
published_reply v None = UnknownLine
published_reply v (Some s) = replies.Published s.version.etag s.name v.etag

abbrev pub publish_to : Machine → ℕ → Reply → Result World PublishRefusal → Replied
publish_to M worker reply (Err refusal) = same_machine (let_go M worker) (publish_refused refusal)
publish_to M worker reply (Ok W) = same_machine (with_world (let_go M worker) W) reply

-- whatever becomes of the batch, the worker then holds nothing
abbrev pub publish_by : Machine → ℕ → Option Held → Replied
publish_by M worker None = same_machine M replies.NothingHeld
publish_by M worker (Some h) =
    publish_to M worker (published_reply h.version (numbered M.world.slots h.number)) (published M.world h.number h.version)
