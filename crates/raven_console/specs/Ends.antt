-- What the status of the program says of what it did.
use Rattle.std.specs.Prelude.{◌≡◌, ℕ, List, Option, Some, None, ◌⊎◌}
use Rattle.spec_http.specs.Options as http
use Rattle.spec_measure.specs.Requests as measure
use Rattle.spec_server.specs.Options as server
use Rattle.http_desk.specs.ProgramSessions.{EndsSo, Session}
use Rattle.http_desk.specs.ProgramSessions as session
use Rattle.http_desk.specs.declared.serving.ServeEnd.{ServeEnd}
use Rattle.raven_measure.specs.Ends.{MeasuresRightly}
use Rattle.raven_measure.specs.Measures.{ends_of}
use Rattle.raven_measure.specs.declared.measuring.MeasureEnd.{MeasureEnd}
use Rattle.raven_run.specs.Ends.{RunsRightly}
use Rattle.raven_run.specs.Runs.{Devices}
use Rattle.raven_run.specs.declared.run_end.RunEnd.{RunEnd}
use Rattle.raven_ports.specs.States.{KeeperState, SinkState, SourceState}
use Rattle.serve_ports.specs.Doors.{Doorway}
use Rattle.raven_serve.specs.Finishing.{server}
use Rattle.raven_serve.specs.Finishing as serving
use Rattle.raven_serve.specs.Options as serve
use Rattle.raven_serve.specs.declared.ends.ServeEnd as serve_end
use Rattle.raven_console.specs.Invocations.{Http, Invocation, Measure, Run, Serve, invoked_in}
use Rattle.raven_console.specs.Statuses.{status_of_measurement, status_of_run, status_of_server, status_of_session}
use Rattle.raven_console.specs.Truth.{ServerIsTrue, SessionIsTrue}
use Rattle.raven_console.specs.declared.status.Status.{Status}
use Rattle.raven_console.specs.declared.status.Status.TheVariants.{KeptBad, KeptFault, NoMemory, NotEmpty, Usage}

-- a call of the program: its arguments, the one moment of its clock if the clock stands still, and the devices before and after
pub record Call : Type 0 where
  pub arguments : List (List ℕ)
  pub clock : Option ℕ
  pub before : Devices
  pub after : Devices

-- this is the status, and nothing was done
pub record HasDoneNothing (is status : Status) (call : Call) : Type 0 where
  pub status_is : status ≡ is
  pub same : call.after ≡ call.before

-- the command `run` ended so
pub record RanSo (options : server.Options) (status : Status) (call : Call) : Type 0 where
  pub end : RunEnd
  pub status_is : status ≡ status_of_run end
  pub rightly : RunsRightly end (record { base = options.base; clock = call.clock; before = call.before; after = call.after })

-- the command `measure` ended so; it is not given the input
pub record MeasuredSo (options : measure.Options) (status : Status) (call : Call) : Type 0 where
  pub end : MeasureEnd
  pub status_is : status ≡ status_of_measurement end
  pub rightly : MeasuresRightly end (record {
    options = options;
    clock = call.clock;
    before = ends_of call.before.output call.before.keeper;
    after = ends_of call.after.output call.after.keeper;
  })
  pub unread : call.after.input ≡ call.before.input

-- the devices of a session
abbrev pub devices_in : Devices → session.Devices
devices_in d = session.devices_of d.input d.output d.keeper

-- the session of a call
abbrev pub session_of : http.Options → Call → Session
session_of options call =
    record { base = options.base; name = options.name; pump = options.pump; clock = call.clock; before = devices_in call.before; after = devices_in call.after }

-- the command `http` ended so, and what it answered is true
pub record ServedSo (options : http.Options) (status : Status) (call : Call) : Type 0 where
  pub end : ServeEnd
  pub status_is : status ≡ status_of_session end
  pub ends : EndsSo end (session_of options call)
  pub truth : SessionIsTrue (session_of options call)

-- what was done, by what the arguments ask for; what a server did is another clause
abbrev pub DoesAsked : Option Invocation → Status → Call → Type 0
DoesAsked None status call = HasDoneNothing Usage status call
DoesAsked (Some (Run options)) status call = RanSo options status call
DoesAsked (Some (Measure options)) status call = MeasuredSo options status call
DoesAsked (Some (Http options)) status call = ServedSo options status call
DoesAsked (Some (Serve options)) status call = Unit {0}

-- that was done, or memory ran out while the arguments were read
abbrev pub EndsAsAsked : Status → Call → Type 0
EndsAsAsked status call = DoesAsked (invoked_in call.arguments) status call ⊎ HasDoneNothing NoMemory status call

-- what a server has: the one moment of its clock if the clock stands still, the keeper and the doors before, and those that are returned
pub record Outlets : Type 0 where
  pub clock : Option ℕ
  pub keeper : KeeperState
  pub doors : List Doorway
  pub keeper_left : Option KeeperState
  pub doors_left : List Doorway

-- the command `serve` ended so, and what it answered is true
pub record ServesSo (options : serve.Options) (status : Status) (o : Outlets) : Type 0 where
  pub end : serve_end.ServeEnd
  pub status_is : status ≡ status_of_server end
  pub ends : serving.EndsSo end (server options.base options.name o.clock o.keeper o.doors) o.keeper_left o.doors_left
  pub truth : ServerIsTrue (server options.base options.name o.clock o.keeper o.doors)

-- the keeper and the doors are as they were
pub record AreAsBefore (o : Outlets) : Type 0 where
  pub keeper : o.keeper_left ≡ Some o.keeper
  pub doors : o.doors_left ≡ o.doors

-- What was done with the doors: a server ended so, or memory ran out while the arguments were read. No other command uses them.
abbrev pub ServesAsAsked : Option Invocation → Status → Outlets → Type 0
ServesAsAsked (Some (Serve options)) status o = ServesSo options status o ⊎ ((status ≡ NoMemory) × AreAsBefore o)
ServesAsAsked other status o = o.doors_left ≡ o.doors

-- no request was answered, because of what the keeper holds, or since it failed when a run, a session or a server was to open it
abbrev pub IsUnopened : Option Invocation → Status → Type 0
IsUnopened asked (KeptBad etag) = Unit {0}
IsUnopened asked (NotEmpty last) = Unit {0}
IsUnopened (Some (Run options)) KeptFault = Unit {0}
IsUnopened (Some (Http options)) KeptFault = Unit {0}
IsUnopened (Some (Serve options)) KeptFault = Unit {0}
IsUnopened asked other = ⊥

abbrev pub AsksToRun : Option Invocation → Type 0
AsksToRun (Some (Run options)) = Unit {0}
AsksToRun other = ⊥

abbrev pub AsksForSession : Option Invocation → Type 0
AsksForSession (Some (Http options)) = Unit {0}
AsksForSession other = ⊥

abbrev pub AsksToServe : Option Invocation → Type 0
AsksToServe (Some (Serve options)) = Unit {0}
AsksToServe other = ⊥

-- the keeper is returned, unless a server ran out of memory
abbrev pub MayLose : Option Invocation → Status → Type 0
MayLose (Some (Serve options)) NoMemory = Unit {0}
MayLose asked other = ⊥

abbrev pub AsksToMeasure : Option Invocation → Type 0
AsksToMeasure (Some (Measure options)) = Unit {0}
AsksToMeasure other = ⊥
