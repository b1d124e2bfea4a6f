-- What is true of all that was answered over HTTP, by a session and by a server.
use Rattle.std.specs.Prelude.{◌≡◌, ◌≢◌, ℕ, List, ◌++◌, Bool, Option, Some, All}
use Rattle.spec_server.specs.Requests.{Event}
use Rattle.spec_server.specs.Machine.{machine_of, run}
use Rattle.spec_server.specs.Sound.{LaterW}
use Rattle.spec_desk.specs.Lived.{Lived, Seen, machine_in}
use Rattle.http_session.specs.declared.why.Why.{Why}
use Rattle.http_session.specs.declared.why.Why.TheVariants as why
use Rattle.raven_desk.specs.Desks.{Alone}
use Rattle.http_desk.specs.Chains.{Chain, Given, IsChained}
use Rattle.http_desk.specs.ProgramSessions.{Serves, Session, desk_of}
use Rattle.turn_desk.specs.Seated.{Seated, seated}
use Rattle.serve_ports.specs.Doors.{Doorway}
use Rattle.raven_run.specs.Truth.{AnswersTruly}
use Rattle.raven_serve.specs.Chains as doors
use Rattle.raven_serve.specs.Finishing.{IsServed, Server}
use Rattle.raven_serve.specs.Fronts.{AnswersSeated, KeepsSeated}
use Rattle.raven_serve.specs.Receipts.{HasReceipts}
use Rattle.raven_serve.specs.Standing.{shots_of}

-- Each look of these requests found a state that is later than x, in which whatever is asked is answered truly.
abbrev pub LooksTruly : Lived → Seen → Type 0
LooksTruly x s = LaterW x.world s.world × AnswersTruly (machine_of s.world)

abbrev pub AllLookTruly : Lived → List Given → Type 0
AllLookTruly x given = All (λ (g : Given). All (λ (s : Seen). LooksTruly x s) (shots_of g.receipt)) given

-- A SESSION OVER THE DESK OF ONE CALLER

-- Requests were asked one after another, the first on x, and y is left. They are cut in two: the state after the earlier and before the later ones.
pub record IsTrueBetween (clock : Option ℕ) (pump : ℕ) (x : Lived) (earlier later : List Given) (y : Lived) : Type 0 where
  pub between : Lived
  pub took : ℕ
  pub takes : ℕ
  pub before : Chain clock pump x earlier between took
  pub after : Chain clock pump between later y takes
  -- it is that of the machine after these events
  pub events : List Event
  pub state : machine_in between ≡ run events (machine_in x)
  -- whatever is asked in it is answered truly
  pub truly : AnswersTruly (machine_in between)
  -- it is later than the first state, and the last one is later than it
  pub since : LaterW x.world between.world
  pub onward : LaterW between.world y.world
  -- and what was answered before was answered truly
  pub looks : AllLookTruly x earlier

-- The requests of a session were asked one after another, and so it is wherever they are cut.
pub record ChainsTruly (first last : Alone) : Type 0 where
  pub chained : IsChained first last
  pub truly : (earlier later : List Given) → chained.given ≡ earlier ++ later → IsTrueBetween first.moment first.pump first.live earlier later last.live

-- So it is of each session that had memory and whose input reports its bytes, from the database that was opened on, in whichever way it came to its end.
pub record SessionIsTrue (s : Session) : Type 0 where
  pub truth : (how : Why) (served : Serves how s) (bytes : List ℕ) → how ≢ why.NoMemory → s.before.input.left ≡ Some bytes
      → ChainsTruly (desk_of s served.first).0 (desk_of s served.last).0

-- A SERVER

-- The requests that reached a desk have true receipts, and what was answered was answered truly, in states later than x.
pub record HasTrueReceipts (x : Lived) (first last : Seated) : Type 0 where
  pub has : HasReceipts first last
  pub truly : AllLookTruly x has.given

-- So it is of each session over a connection of a door that had memory and whose connection reports its bytes. Before it this front had so many calls.
pub record ServerIsTrue (s : Server) : Type 0 where
  pub truth : (x y : Lived) (failed : Bool) (before after : Doorway) (served : IsServed s x y failed before after)
      (calls : ℕ) (d last : Seated × List ℕ) (between left : Doorway)
      → doors.Chain AnswersSeated KeepsSeated calls (seated served.pass s.clock, s.name) before d between → (call : doors.Call AnswersSeated KeepsSeated d between last left)
      → (bytes : List ℕ) → call.why ≢ why.NoMemory → call.serves.found.source.left ≡ Some bytes → HasTrueReceipts x d.0 last.0
