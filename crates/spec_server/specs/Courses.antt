-- The changes that a request makes, one after another, and what is left if the keeper takes no more.
use Rattle.std.specs.Prelude.{ℕ, List, [], ◌∷◌, Bool, true, if◌then◌else◌, Option, Some, None}
use Rattle.spec_data.specs.Rows.{Row}
use Rattle.spec_store.specs.Store.{Store}
use Rattle.spec_server.specs.Replies.{Reply}
use Rattle.spec_server.specs.Replies as replies
use Rattle.spec_index.specs.World.{Version, Slot, World, SlotChange}
use Rattle.spec_server.specs.Requests.{Keeping}

-- a batch that a worker has read and not yet published: the number of its index, and the version after the batch
pub record Held : Type 0 where
  pub worker : ℕ
  pub number : ℕ
  pub version : Version

-- the world, and what workers hold
pub record Machine : Type 0 where
  pub world : World
  pub held : List Held

abbrev pub with_world : Machine → World → Machine
with_world M W = record { world = W; held = M.held }

pub record Replied : Type 0 where
  pub reply : Reply
  pub machine : Machine

abbrev pub same_machine : Machine → Reply → Replied
same_machine M reply = record { reply = reply; machine = M }

-- COURSES

-- A change of a world: the rows that the keeper is to store, and the world once it has. If the change cleans up to an etag, the rows are the
-- tombstones up to there, which the keeper is to remove.
pub record Change : Type 0 where
  pub rows : List Row
  pub cleans : Option ℕ
  pub world : World

-- the keeper is to store these rows
abbrev pub storing : List Row → World → Change
storing rows W = record { rows = rows; cleans = None; world = W }

-- it is to remove these tombstones, which are those up to this etag
abbrev pub cleaning : List Row → ℕ → World → Change
cleaning rows upto W = record { rows = rows; cleans = Some upto; world = W }

-- What a request does: changes, each of the world that the one before it leaves, and the reply if all of them are made. A change that is refused
-- is none: its refusal is then the reply, and the changes before it are the whole course.
pub record Course : Type 0 where
  pub changes : List Change
  pub reply : Reply

-- the change, and then this course
abbrev pub then_course : Change → Course → Course
then_course c course = record { changes = c ∷ course.changes; reply = course.reply }

-- nothing is changed
abbrev pub only_reply : Reply → Course
only_reply reply = record { changes = []; reply = reply }

abbrev pub one_change : Reply → List Row → World → Course
one_change reply rows W = record { changes = storing rows W ∷ []; reply = reply }

-- WHAT THE KEEPER TAKES

abbrev pub is_first_taken : List Bool → Bool
is_first_taken [] = true
is_first_taken (taken ∷ more) = taken

-- a change without rows needs no call of the keeper
abbrev pub is_taken : List Bool → List Row → Bool
is_taken takes [] = true
is_taken takes (r ∷ rows) = is_first_taken takes

abbrev pub without_first : List Bool → List Bool
without_first [] = []
without_first (taken ∷ more) = more

-- what the keeper does at the calls after that for these rows
abbrev pub takes_after : List Row → List Bool → List Bool
takes_after [] takes = takes
takes_after (r ∷ rows) takes = without_first takes

-- The changes are made one after another. The first whose rows the keeper does not take is not made, and ends the course with the reply
-- KeeperFault; those before it stand.
abbrev pub made : Keeping → Machine → List Bool → List Change → Reply → Replied
made k M takes [] reply = record { reply = reply; machine = M }
made k M takes (c ∷ more) reply =
    if is_taken takes c.rows
    then made k (with_world M c.world) (takes_after c.rows takes) more reply
    else same_machine M (replies.KeeperFault k.before k.after)

abbrev pub settled : Machine → Keeping → Course → Replied
settled M k course = made k M k.takes course.changes course.reply

-- THE PARTS OF A WORLD

abbrev pub in_world : World → Store → List Slot → World
in_world W store slots = record { setting = W.setting; store = store; slots = slots; notes = W.notes }

abbrev pub with_slots : World → List Slot → World
with_slots W slots = in_world W W.store slots

-- the world with this store, after a change of its slots
abbrev pub changed : World → Store → SlotChange → World
changed W store c = record { setting = W.setting; store = store; slots = c.slots; notes = c.notes }
