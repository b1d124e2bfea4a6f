-- What is answered to a line.
use Rattle.std.specs.Prelude.{◌≡◌, ℕ, List, Bool, true, Option, Some, Ok, ◌⊎◌}
use Rattle.spec_data.specs.Kept.{KeptRow}
use Rattle.raven_ports.specs.Asking.{Asked}
use Rattle.raven_ports.specs.States.{KeeperState}
use Rattle.spec_server.specs.Requests.{Do, Line, Request, makes_several}
use Rattle.spec_server.specs.Courses.{Course, Machine}
use Rattle.spec_server.specs.Machine.{course_of, step}
use Rattle.spec_server.specs.Replies.{Reply, printed}
use Rattle.spec_server.specs.Words.{LineRead}
use Rattle.spec_server.specs.Script.{after_line, reply_to}
use Rattle.raven_lines.specs.Lines.{IsLine}
use Rattle.spec_desk.specs.Keepers.{keeping, tasks_on}
use Rattle.spec_desk.specs.Lived.{Lived}
use Rattle.spec_desk.specs.Stepped.{IsStep, MadeInPart, Makes}
use Rattle.raven_run.specs.Devices.{given, tasks_in}

-- the line has a meaning, its reply is this text, the keeper was asked for each of its changes, and the machine is that after it
pub record IsAnswered (line : List ℕ) (now : ℕ) (before after : KeeperState) (M N : Machine) (text : List ℕ) : Type 0 where
  pub read : LineRead
  pub takes : List Bool
  pub means : IsLine line read
  pub reply : text ≡ reply_to (given line read now takes before after) M
  pub machine : N ≡ after_line (given line read now takes before after) M
  pub asked : Asked before after takes (tasks_in M now read)

-- this was done: the keeper was asked for each of its changes, its reply is printed as this text, and the machine is that after it
pub record IsHandled (line : Line) (now : ℕ) (before after : KeeperState) (M N : Machine) (text : List ℕ) : Type 0 where
  pub takes : List Bool
  pub asked : Asked before after takes (tasks_on M now line)
  pub reply : text ≡ printed (step M (keeping takes before after) now line).reply
  pub machine : N ≡ (step M (keeping takes before after) now line).machine

-- the step of a request, whose reply is printed as this text
pub record IsPerformed (request : Request) (now : ℕ) (before after : Lived) (text : List ℕ) : Type 0 where
  pub reply : Reply
  pub step : IsStep now request before reply after
  pub written : text ≡ printed reply

-- the changes of a course were made on x up to the first whose rows the keeper did not take, y is left, and the reply is printed as this text
pub record IsSettled (course : Course) (x y : Lived) (text : List ℕ) : Type 0 where
  pub reply : Reply
  pub makes : Makes x.keeper.count course.changes course.reply x reply y
  pub written : text ≡ printed reply

-- WITHOUT A REPLY, since memory ran out

-- the request that was asked makes several changes, and only the first of them were made: they stand, and the keeper holds their rows
pub record IsDoneInPart (WasAsked : Request → Type 0) (now : ℕ) (M : Machine) (keeper : KeeperState) (N : Machine) (held : Option (List KeptRow)) : Type 0 where
  pub request : Request
  pub asked : WasAsked request
  pub several : makes_several request ≡ true
  pub part : MadeInPart (course_of M.world now request).changes M.world keeper N.world held
  pub workers : N.held ≡ M.held

-- The machine is as it was and the keeper holds what it held, unless the request makes several changes: of those the first may have been made.
abbrev pub IsCut : (Request → Type 0) → ℕ → Machine → KeeperState → Machine → Option (List KeptRow) → Type 0
IsCut WasAsked now M keeper N held = ((N ≡ M) × (held ≡ keeper.held)) ⊎ IsDoneInPart WasAsked now M keeper N held

-- so of a line
abbrev pub IsCutAt : List ℕ → ℕ → Machine → KeeperState → Machine → Option (List KeptRow) → Type 0
IsCutAt line now M keeper N held = IsCut (λ request. IsLine line (Ok (Some (Do request)))) now M keeper N held
