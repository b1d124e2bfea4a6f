-- What a keeper and a clock do while lines are answered, as far as they report it.
use Rattle.std.specs.Prelude.{◌≡◌, ℕ, List, [], ◌∷◌, Bool, Option, Some, None, Ok, Err}
use Rattle.raven_ports.specs.Asking.{Asked, Task}
use Rattle.raven_ports.specs.States.{KeeperState}
use Rattle.spec_server.specs.Courses.{Machine}
use Rattle.spec_server.specs.Words.{LineRead}
use Rattle.spec_server.specs.Script.{Circumstance, Given, after_line}
use Rattle.raven_lines.specs.Lines.{IsLine}
use Rattle.spec_desk.specs.Keepers.{MayGive, keeping, tasks_on}

-- what the keeper is asked for each change that a line makes, if it asks for something
abbrev pub tasks_in : Machine → ℕ → LineRead → List Task
tasks_in M now (Err refusal) = []
tasks_in M now (Ok None) = []
tasks_in M now (Ok (Some line)) = tasks_on M now line

-- what a line is given: the moment, and what the keeper did
abbrev pub circumstance : ℕ → List Bool → KeeperState → KeeperState → Circumstance
circumstance now takes before after = record { now = now; keeping = keeping takes before after }

abbrev pub given : List ℕ → LineRead → ℕ → List Bool → KeeperState → KeeperState → Given
given line read now takes before after = record { line = line; read = read; circumstance = circumstance now takes before after }

-- This is a line with what it means, the moment that the clock gave, and what the keeper did: it was asked for each of the line's changes, in this
-- state of the machine.
pub record IsGiven (clock : Option ℕ) (before after : KeeperState) (M : Machine) (g : Given) : Type 0 where
  pub line : List ℕ
  pub read : LineRead
  pub now : ℕ
  pub takes : List Bool
  pub is : g ≡ given line read now takes before after
  pub means : IsLine line read
  pub moment : MayGive clock now
  pub asked : Asked before after takes (tasks_in M now read)

-- and so one line after another
abbrev pub AreGiven : Option ℕ → KeeperState → KeeperState → Machine → List Given → Type 0
AreGiven clock before after M [] = after ≡ before
AreGiven clock before after M (g ∷ more) = (between : KeeperState) × IsGiven clock before between M g × AreGiven clock between after (after_line g M) more
