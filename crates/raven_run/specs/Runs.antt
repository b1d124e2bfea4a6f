-- A whole run.
use Rattle.std.specs.Prelude.{◌≡◌, ℕ, ◌≤◌, List, length, Option, Some, IfSome, Ok}
use Rattle.spec_data.specs.Kept.{KeptRow}
use Rattle.raven_ports.specs.Faults.{Rose}
use Rattle.raven_ports.specs.States.{KeeperState, SinkState, SourceState}
use Rattle.spec_server.specs.Lines.{max_input}
use Rattle.spec_server.specs.Courses.{Machine}
use Rattle.spec_server.specs.Options.{setting_with}
use Rattle.index_lang.specs.Openings.{IsOpened}
use Rattle.spec_desk.specs.Keepers.{Holds}
use Rattle.raven_desk.specs.Openings.{IsBad, Loads, Opens}
use Rattle.raven_run.specs.Answers.{Answers, ServerState, StopsBefore, StopsIn, state_of}

-- the devices at one moment
pub record Devices : Type 0 where
  pub input : SourceState
  pub output : SinkState
  pub keeper : KeeperState

abbrev pub devices_of : SourceState → SinkState → KeeperState → Devices
devices_of input output keeper = record { input = input; output = output; keeper = keeper }

-- a run: the base id of its database, the one moment of its clock if the clock stands still, and the devices before and after
pub record Run : Type 0 where
  pub base : List ℕ
  pub clock : Option ℕ
  pub before : Devices
  pub after : Devices

-- the output and the keeper hold what they held
abbrev pub HoldsSame : Run → Type 0
HoldsSame run = (run.after.output.held ≡ run.before.output.held) × (run.after.keeper.held ≡ run.before.keeper.held)

-- THE BEGINNING

-- the database of the stored rows was opened
pub record Begins (run : Run) (begun : KeeperState) (M : Machine) : Type 0 where
  pub opens : Opens (setting_with run.base) run.before.keeper.held M
  pub loads : Loads run.before.keeper begun

-- the row of this etag is the first invalid one that the keeper holds
abbrev pub IsKeptBad : Run → ℕ → Type 0
IsKeptBad run etag = IsBad (setting_with run.base) run.before.keeper.held etag

-- A keeper failed while its rows were loaded, and was asked for nothing else.
pub record FailsToLoad (before after : KeeperState) : Type 0 where
  pub loads : Loads before after
  pub rose : Rose before.count after.count

-- THE END, AFTER THE INPUT WAS READ

-- This happened to the lines of the script that was read, from the opened database to its last state, and the keeper holds the rows of the last
-- store. The script is all of the input, if the input reports it.
pub record LinesRan (run : Run) (Happened : Option ℕ → List ℕ → ServerState → ServerState → Type 0) : Type 0 where
  pub script : List ℕ
  pub input : IfSome run.before.input.left (λ left. left ≡ script)
  pub within : length script ≤ max_input
  pub begun : KeeperState
  pub first : Machine
  pub last : Machine
  pub begins : Begins run begun first
  pub happened : Happened run.clock script (state_of first begun run.before.output) (state_of last run.after.keeper run.after.output)
  pub holds : Holds run.after.keeper.held last

-- all lines were executed and all replies were written
abbrev pub Finished : Run → Type 0
Finished run = LinesRan run Answers

-- it stopped at the reply to one of the lines, after which no line was executed
abbrev pub Stopped : Run → Type 0
Stopped run = LinesRan run StopsIn

-- it stopped before one of the lines
abbrev pub StoppedEarly : Run → Type 0
StoppedEarly run = LinesRan run StopsBefore

-- COMPLETENESS

-- the input is no longer than may be read, and the stored rows open; both devices report these
pub record IsValid (run : Run) : Type 0 where
  pub script : List ℕ
  pub input : run.before.input.left ≡ Some script
  pub within : length script ≤ max_input
  pub rows : List KeptRow
  pub kept : run.before.keeper.held ≡ Some rows
  pub machine : Machine
  pub opens : IsOpened (setting_with run.base) rows (Ok machine)

-- no count of faults rose
pub record HasNoFault (run : Run) : Type 0 where
  pub input : ¬ Rose run.before.input.faults run.after.input.faults
  pub output : ¬ Rose run.before.output.faults run.after.output.faults
  pub keeper : ¬ Rose run.before.keeper.count run.after.keeper.count
