-- What a keeper and a clock do while requests are answered, as far as they report it.
use Rattle.std.specs.Prelude.{◌≡◌, ℕ, ◌<◌, List, [], ◌∷◌, Bool, Option, IfSome, map}
use Rattle.spec_data.specs.Kept.{KeptRow, all_kept}
use Rattle.spec_data.specs.Moments.{moments_end}
use Rattle.spec_data.specs.Rows.{Row}
use Rattle.raven_ports.specs.Asking.{Asked, Task}
use Rattle.raven_ports.specs.States.{KeeperState}
use Rattle.spec_server.specs.Requests.{Keeping, Line}
use Rattle.spec_server.specs.Courses.{Change, Machine, is_taken}
use Rattle.spec_server.specs.Machine.{changes_of}
use Rattle.spec_server.specs.Sound.{IsMachine}

abbrev pub task : List Row → Option ℕ → Task
task rows cleans = record { rows = rows; cleans = cleans }

-- what the keeper is asked for a change, and for each of some changes
abbrev pub task_of : Change → Task
task_of c = task c.rows c.cleans

abbrev pub tasks_of : List Change → List Task
tasks_of changes = map task_of changes

-- for each change that a line makes
abbrev pub tasks_on : Machine → ℕ → Line → List Task
tasks_on M now line = tasks_of (changes_of M.world now line)

-- what the keeper did: whether it took the rows of each call, and its counts before and after
abbrev pub keeping : List Bool → KeeperState → KeeperState → Keeping
keeping takes before after = record { takes = takes; before = before.count; after = after.count }

-- the clock may have given this moment
pub record MayGive (clock : Option ℕ) (now : ℕ) : Type 0 where
  pub below : now < moments_end
  pub still : IfSome clock (λ moment. now ≡ moment)

-- the keeper was asked once to store these rows, or to clean up to an etag, if there are any, and it did it or not
pub record IsKept (before after : KeeperState) (rows : List Row) (cleans : Option ℕ) (taken : Bool) : Type 0 where
  pub takes : List Bool
  pub asked : Asked before after takes (task rows cleans ∷ [])
  pub taken_is : is_taken takes rows ≡ taken

-- it holds the rows of the machine's store, if it reports them
abbrev pub Holds : Option (List KeptRow) → Machine → Type 0
Holds held M = IfSome held (λ all. all ≡ all_kept M.world.store.rows)

-- and the state of the machine is sound
pub record Keeps (held : Option (List KeptRow)) (M : Machine) : Type 0 where
  pub sound : IsMachine M
  pub holds : Holds held M
