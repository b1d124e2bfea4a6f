-- What is read of the arguments of the program.
use Rattle.std.specs.Borrow.{Bor}
use Rattle.std.specs.Prelude.{ℕ, ◌≤◌, List, Option, None, map, option_map}
use Rattle.spec_http.specs.Options as http
use Rattle.raven_serve.specs.Options as serve
use Rattle.spec_server.specs.Options as server
use Rattle.raven_measure.specs.OptionsView.{options_view}
use Rattle.raven_console.specs.Invocations as is
use Rattle.raven_console.specs.declared.options.Invocation.{Invocation}
use Rattle.raven_console.specs.declared.options.Invocation.TheVariants.{Http, Measure, Run, Serve}
use Rattle.raven_console.specs.declared.options.Counts.{Counts}
use Rattle.raven_console.specs.declared.options.ServeOptions.{ServeOptions}
use Rattle.raven_console.specs.declared.options.HttpOptions.{HttpOptions}
use Rattle.raven_console.specs.declared.options.RunOptions.{RunOptions}
use Rattle.raven_console.specs.declared.options.Outside.{Outside}

abbrev pub text_view : Option (Bor (List ℕ)) → Option (List ℕ)
text_view text = option_map (λ t. t.now) text

abbrev pub pair_view : Bor (List ℕ) × Bor (List ℕ) → List ℕ × List ℕ
pair_view pair = (pair.0.now, pair.1.now)

abbrev pub names_view : List (Bor (List ℕ)) → List (List ℕ)
names_view names = map (λ n. n.now) names

abbrev pub run_view : RunOptions → server.Options
run_view options = record { file = options.file; base = options.base }

abbrev pub http_view : HttpOptions → http.Options
http_view options = record { file = options.file; base = options.base; name = options.name; pump = options.pump }

abbrev pub counts_view : Counts → serve.Counts
counts_view counts = record { port = counts.port; workers = counts.workers; pumps = counts.pumps; connections = counts.connections }

abbrev pub serve_view : ServeOptions → serve.Options
serve_view options = record {
  file = options.file;
  base = options.base;
  name = options.name;
  port = options.counts.port;
  workers = options.counts.workers;
  pumps = options.counts.pumps;
  connections = options.counts.connections;
}

abbrev pub invocation_view : Invocation → is.Invocation
invocation_view (Run options) = is.Run (run_view options)
invocation_view (Measure options) = is.Measure (options_view options)
invocation_view (Http options) = is.Http (http_view options)
invocation_view (Serve options) = is.Serve (serve_view options)

-- batches are of at most 65,536 rows
abbrev pub FitsPump : Invocation → Type 0
FitsPump (Http options) = options.pump ≤ 65536
FitsPump other = Unit {0}

-- what the caller has to make: a run and a session need their file, a measurement needs nothing, and a server listens
abbrev pub outside_of : is.Invocation → Outside
outside_of (is.Run options) = record { file = options.file; port = 0; workers = 0; connections = None }
outside_of (is.Measure options) = record { file = None; port = 0; workers = 0; connections = None }
outside_of (is.Http options) = record { file = options.file; port = 0; workers = 0; connections = None }
outside_of (is.Serve options) = record { file = options.file; port = options.port; workers = options.workers; connections = options.connections }
