-- The status of the program: its name and its number, which are part of the program's interface, and by the end of a command.
use Rattle.std.specs.Prelude.{ℕ, List, codes}
use Rattle.http_desk.specs.declared.serving.ServeEnd.{ServeEnd}
use Rattle.http_desk.specs.declared.serving.ServeEnd.TheVariants as http
use Rattle.raven_measure.specs.declared.measuring.MeasureEnd.{MeasureEnd}
use Rattle.raven_measure.specs.declared.measuring.MeasureEnd.TheVariants as measure
use Rattle.raven_run.specs.declared.run_end.RunEnd.{RunEnd}
use Rattle.raven_run.specs.declared.run_end.RunEnd.TheVariants as run
use Rattle.raven_serve.specs.declared.ends.ServeEnd as serve_end
use Rattle.raven_serve.specs.declared.ends.ServeEnd.TheVariants as serve
use Rattle.raven_console.specs.declared.status.Status.{Status}
use Rattle.raven_console.specs.declared.status.Status.TheVariants as is

-- the exit status
abbrev pub number_of : Status → ℕ
number_of is.Done = 0
number_of is.Usage = 2
number_of is.ReadFault = 3
number_of is.WriteFault = 4
number_of is.KeptFault = 5
number_of (is.KeptBad etag) = 6
number_of is.DoorFault = 7
number_of is.NoThread = 8
number_of is.InputTooLarge = 9
number_of is.NoMemory = 10
number_of (is.HttpRefused end) = 11
number_of is.Enough = 12
number_of (is.NotEmpty last) = 13

-- the name, as it is written to standard error
abbrev pub name_of : Status → List ℕ
name_of is.Done = codes "Done"
name_of is.Usage = codes "Usage"
name_of is.ReadFault = codes "ReadFault"
name_of is.WriteFault = codes "WriteFault"
name_of is.KeptFault = codes "KeptFault"
name_of (is.KeptBad etag) = codes "KeptBad"
name_of is.DoorFault = codes "DoorFault"
name_of is.NoThread = codes "NoThread"
name_of is.InputTooLarge = codes "InputTooLarge"
name_of is.NoMemory = codes "NoMemory"
name_of (is.HttpRefused end) = codes "HttpRefused"
name_of is.Enough = codes "Enough"
name_of (is.NotEmpty last) = codes "NotEmpty"

-- if the command was `run`
abbrev pub status_of_run : RunEnd → Status
status_of_run run.Done = is.Done
status_of_run run.ReadFault = is.ReadFault
status_of_run run.WriteFault = is.WriteFault
status_of_run run.KeptFault = is.KeptFault
status_of_run (run.KeptBad etag) = is.KeptBad etag
status_of_run run.InputTooLarge = is.InputTooLarge
status_of_run run.NoMemory = is.NoMemory

-- if it was `measure`
abbrev pub status_of_measurement : MeasureEnd → Status
status_of_measurement measure.Done = is.Done
status_of_measurement measure.WriteFault = is.WriteFault
status_of_measurement measure.KeptFault = is.KeptFault
status_of_measurement (measure.KeptBad etag) = is.KeptBad etag
status_of_measurement (measure.NotEmpty last) = is.NotEmpty last
status_of_measurement measure.NoMemory = is.NoMemory

-- if it was `http`
abbrev pub status_of_session : ServeEnd → Status
status_of_session http.Done = is.Done
status_of_session http.ReadFault = is.ReadFault
status_of_session http.WriteFault = is.WriteFault
status_of_session http.KeptFault = is.KeptFault
status_of_session (http.KeptBad etag) = is.KeptBad etag
status_of_session (http.Refused end) = is.HttpRefused end
status_of_session http.Enough = is.Enough
status_of_session http.NoMemory = is.NoMemory

-- if it was `serve`
abbrev pub status_of_server : serve_end.ServeEnd → Status
status_of_server serve.Done = is.Done
status_of_server serve.DoorFault = is.DoorFault
status_of_server serve.NoThread = is.NoThread
status_of_server serve.KeptFault = is.KeptFault
status_of_server (serve.KeptBad etag) = is.KeptBad etag
status_of_server serve.NoMemory = is.NoMemory
