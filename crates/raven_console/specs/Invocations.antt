-- What the arguments ask the program to do.
use Rattle.std.specs.Prelude.{ℕ, List, Option, option_map}
use Rattle.std.specs.Option.{option_or}
use Rattle.spec_http.specs.Options.{served_in}
use Rattle.spec_http.specs.Options as http
use Rattle.spec_measure.specs.Options.{measured_in}
use Rattle.spec_measure.specs.Requests as measure
use Rattle.raven_serve.specs.Options as serve
use Rattle.spec_server.specs.Options.{asked_in}
use Rattle.spec_server.specs.Options as server

-- a command with its options
pub data Invocation : Type 0 where
  Run : (options : server.Options) → Invocation
  Measure : (options : measure.Options) → Invocation
  Http : (options : http.Options) → Invocation
  Serve : (options : serve.Options) → Invocation

abbrev pub run_of : server.Invocation → Invocation
run_of (server.Run options) = Run options

-- The command that the arguments ask for, if they are valid. Each command has a name of its own, so no arguments ask for two.
abbrev pub invoked_in : List (List ℕ) → Option Invocation
invoked_in arguments =
    option_or (option_map run_of (asked_in arguments)) (option_or (option_map Measure (measured_in arguments))
    (option_or (option_map Http (served_in arguments)) (option_map Serve (serve.asked_in arguments))))
