-- Lines that are answered one after another.
use Rattle.std.specs.Prelude.{◌≡◌, ℕ, List, [], ◌∷◌, ◌++◌, map, Option, ◌⊎◌}
use Rattle.raven_ports.specs.Reported.{appended}
use Rattle.raven_ports.specs.States.{KeeperState, SinkState}
use Rattle.spec_server.specs.Lines.{lines}
use Rattle.spec_server.specs.Courses.{Machine}
use Rattle.spec_server.specs.Script.{Given, reply_to, replies_to, after_lines}
use Rattle.spec_desk.specs.Keepers.{MayGive}
use Rattle.spec_desk.specs.Lived.{Lived, machine_with}
use Rattle.raven_run.specs.Answering.{IsCutAt}
use Rattle.raven_run.specs.Devices.{AreGiven}
use Rattle.raven_run.specs.Holding.{NamedBatch, all_held}

-- the machine, and the devices that it uses
pub record ServerState : Type 0 where
  pub machine : Machine
  pub keeper : KeeperState
  pub output : SinkState

abbrev pub state_of : Machine → KeeperState → SinkState → ServerState
state_of M keeper output = record { machine = M; keeper = keeper; output = output }

-- that of a live database, of which workers hold these batches
abbrev pub state_in : Lived → List NamedBatch → SinkState → ServerState
state_in live batches output = state_of (machine_with live (all_held batches)) live.keeper output

abbrev pub texts_of : List Given → List (List ℕ)
texts_of all = map (λ g. g.line) all

-- all lines were executed, one after another, and their replies were written
pub record Answers (clock : Option ℕ) (script : List ℕ) (before after : ServerState) : Type 0 where
  pub all : List Given
  pub split : lines script ≡ texts_of all
  pub given : AreGiven clock before.keeper after.keeper before.machine all
  pub written : after.output.held ≡ appended before.output.held (replies_to all before.machine)
  pub executed : after.machine ≡ after_lines all before.machine

-- It stopped at the reply to one of the lines: the replies to the lines before were written whole, and then a prefix of this one. The machine left
-- is that after the lines up to this one, so no later line was executed.
pub record StopsIn (clock : Option ℕ) (script : List ℕ) (before after : ServerState) : Type 0 where
  pub done : List Given
  pub line : Given
  pub more : List (List ℕ)
  pub part : List ℕ
  pub rest : List ℕ
  pub split : lines script ≡ texts_of (done ++ line ∷ []) ++ more
  pub piece : reply_to line (after_lines done before.machine) ≡ part ++ rest
  pub given : AreGiven clock before.keeper after.keeper before.machine (done ++ line ∷ [])
  pub written : after.output.held ≡ appended before.output.held (replies_to done before.machine ++ part)
  pub executed : after.machine ≡ after_lines (done ++ line ∷ []) before.machine

-- It stopped before the reply to one of the lines: the replies to the lines before were written whole, and neither this line nor a later one was
-- executed. The keeper holds what it held after the lines before. But if the line is a TIDY, some of its changes may stand, as if it had been cut there.
pub record StopsBefore (clock : Option ℕ) (script : List ℕ) (before after : ServerState) : Type 0 where
  pub done : List Given
  pub line : List ℕ
  pub more : List (List ℕ)
  pub split : lines script ≡ texts_of done ++ line ∷ more
  pub reached : KeeperState
  pub given : AreGiven clock before.keeper reached before.machine done
  pub now : ℕ
  pub moment : MayGive clock now
  pub cut : IsCutAt line now (after_lines done before.machine) reached after.machine after.keeper.held
  pub written : after.output.held ≡ appended before.output.held (replies_to done before.machine)

-- it stopped before the reply to one of the lines, or at it
abbrev pub StopsShort : Option ℕ → List ℕ → ServerState → ServerState → Type 0
StopsShort clock script before after = StopsBefore clock script before after ⊎ StopsIn clock script before after
