-- What is asked, by the command and the pairs after it.
use Rattle.std.proofs.Common.{◌≡◌, ℕ, List, ◌∷◌, Option, Some, None, Bool, true, false, String, Global, string_bytes, refl, ap, sym, ◌∙◌, map}
use Rattle.std.specs.Prelude.{◌&&◌, if◌then◌else◌, codes}
use Rattle.std.specs.Option.{option_and_then, option_map, option_or}
use Rattle.std.specs.Str.{bytes_eq}
use Rattle.std.proofs.lemmas.Slice.Eq.{bytes_eq-Decides}
use Rattle.spec_http.specs.Options.{name_in, option_names, options_in as http_options, options_of, pump_in}
use Rattle.spec_http.specs.Options as http
use Rattle.spec_measure.specs.Options.{options_in as measure_options}
use Rattle.spec_measure.specs.Requests as measure
use Rattle.spec_server.specs.Options.{Pairs, are_known, are_once, base_in, pairs_in, run_names, run_options, value_named}
use Rattle.raven_serve.specs.Options as serve
use Rattle.spec_server.specs.Options as server
use Rattle.raven_console.specs.Invocations.{Http, Invocation, Measure, Run, Serve, invoked_in, run_of}

named : (n m : List ℕ) → bytes_eq n m ≡ true → n ≡ m
named n m h = (bytes_eq-Decides n m).0 h

-- THE COMMANDS

from_run : (o : Option server.Options) → option_or (option_map run_of (option_map server.Run o)) None ≡ option_map Run o
from_run None = refl
from_run (Some options) = refl

from_measure : (o : Option measure.Options) → option_or (option_map Measure o) None ≡ option_map Measure o
from_measure None = refl
from_measure (Some options) = refl

from_http : (o : Option http.Options) → option_or (option_map Http o) None ≡ option_map Http o
from_http None = refl
from_http (Some options) = refl

pub asks_run : (ws more : List (String Global)) (command : String Global) (found : Option server.Options) → ws ≡ command ∷ more → bytes_eq (string_bytes command) (codes "run") ≡ true
    → found ≡ run_options (pairs_in (map string_bytes more)) → option_map Run found ≡ invoked_in (map string_bytes ws)
asks_run ws more command found e h f =
    sym (ap (λ z. invoked_in (map string_bytes z)) e
    ∙ ap (λ z. invoked_in (z ∷ map string_bytes more)) (named (string_bytes command) (codes "run") h)
    ∙ from_run (run_options (pairs_in (map string_bytes more)))
    ∙ ap (option_map Run) (sym f))

pub asks_measure : (ws more : List (String Global)) (command : String Global) (found : Option measure.Options) → ws ≡ command ∷ more → bytes_eq (string_bytes command) (codes "measure") ≡ true
    → found ≡ measure_options (pairs_in (map string_bytes more)) → option_map Measure found ≡ invoked_in (map string_bytes ws)
asks_measure ws more command found e h f =
    sym (ap (λ z. invoked_in (map string_bytes z)) e
    ∙ ap (λ z. invoked_in (z ∷ map string_bytes more)) (named (string_bytes command) (codes "measure") h)
    ∙ from_measure (measure_options (pairs_in (map string_bytes more)))
    ∙ ap (option_map Measure) (sym f))

pub asks_http : (ws more : List (String Global)) (command : String Global) (found : Option http.Options) → ws ≡ command ∷ more → bytes_eq (string_bytes command) (codes "http") ≡ true
    → found ≡ http_options (pairs_in (map string_bytes more)) → option_map Http found ≡ invoked_in (map string_bytes ws)
asks_http ws more command found e h f =
    sym (ap (λ z. invoked_in (map string_bytes z)) e
    ∙ ap (λ z. invoked_in (z ∷ map string_bytes more)) (named (string_bytes command) (codes "http") h)
    ∙ from_http (http_options (pairs_in (map string_bytes more)))
    ∙ ap (option_map Http) (sym f))

pub asks_serve : (ws more : List (String Global)) (command : String Global) (found : Option serve.Options) → ws ≡ command ∷ more → bytes_eq (string_bytes command) (codes "serve") ≡ true
    → found ≡ serve.options_in (pairs_in (map string_bytes more)) → option_map Serve found ≡ invoked_in (map string_bytes ws)
asks_serve ws more command found e h f =
    sym (ap (λ z. invoked_in (map string_bytes z)) e
    ∙ ap (λ z. invoked_in (z ∷ map string_bytes more)) (named (string_bytes command) (codes "serve") h)
    ∙ ap (option_map Serve) (sym f))

-- what is asked if the command is one of these
abbrev by_command : Bool → Bool → Bool → Bool → Option Pairs → List (List ℕ) → Option Invocation
by_command is_run is_measure is_http is_serve pairs more =
    option_or (option_map run_of (if is_run then option_map server.Run (run_options pairs) else None))
    (option_or (option_map Measure (option_and_then (λ m. measure_options (pairs_in m)) (if is_measure then Some more else None)))
    (option_or (option_map Http (option_and_then (λ m. http_options (pairs_in m)) (if is_http then Some more else None)))
    (option_map Serve (option_and_then (λ m. serve.options_in (pairs_in m)) (if is_serve then Some more else None)))))

-- whether it is none of these
record IsNone (command : List ℕ) : Type 0 where
  run : bytes_eq command (codes "run") ≡ false
  measure : bytes_eq command (codes "measure") ≡ false
  http : bytes_eq command (codes "http") ≡ false
  serve : bytes_eq command (codes "serve") ≡ false

nothing_by : (command : List ℕ) (more : List (List ℕ)) → IsNone command → None ≡ invoked_in (command ∷ more)
nothing_by command more n =
    sym (ap (λ b. by_command b (bytes_eq command (codes "measure")) (bytes_eq command (codes "http")) (bytes_eq command (codes "serve")) (pairs_in more) more) n.run
    ∙ ap (λ b. by_command false b (bytes_eq command (codes "http")) (bytes_eq command (codes "serve")) (pairs_in more) more) n.measure
    ∙ ap (λ b. by_command false false b (bytes_eq command (codes "serve")) (pairs_in more) more) n.http
    ∙ ap (λ b. by_command false false false b (pairs_in more) more) n.serve)

pub asks_nothing : (ws more : List (String Global)) (command : String Global) → ws ≡ command ∷ more → bytes_eq (string_bytes command) (codes "run") ≡ false
    → bytes_eq (string_bytes command) (codes "measure") ≡ false → bytes_eq (string_bytes command) (codes "http") ≡ false → bytes_eq (string_bytes command) (codes "serve") ≡ false
    → None ≡ invoked_in (map string_bytes ws)
asks_nothing ws more command e r m h s =
    nothing_by (string_bytes command) (map string_bytes more) (record { run = r; measure = m; http = h; serve = s }) ∙ sym (ap (λ z. invoked_in (map string_bytes z)) e)

-- the same for the pairs that follow
abbrev by_pairs : Bool → Bool → Bool → Bool → Option Pairs → Option Invocation
by_pairs is_run is_measure is_http is_serve pairs =
    option_or (option_map run_of (if is_run then option_map server.Run (run_options pairs) else None))
    (option_or (option_map Measure (if is_measure then measure_options pairs else None))
    (option_or (option_map Http (if is_http then http_options pairs else None)) (option_map Serve (if is_serve then serve.options_in pairs else None))))

without_pairs : (is_run is_measure is_http is_serve : Bool) (more : List (List ℕ)) → pairs_in more ≡ None → by_command is_run is_measure is_http is_serve (pairs_in more) more ≡ None
without_pairs true true true true more h = ap (by_pairs true true true true) h
without_pairs true true true false more h = ap (by_pairs true true true false) h
without_pairs true true false true more h = ap (by_pairs true true false true) h
without_pairs true true false false more h = ap (by_pairs true true false false) h
without_pairs true false true true more h = ap (by_pairs true false true true) h
without_pairs true false true false more h = ap (by_pairs true false true false) h
without_pairs true false false true more h = ap (by_pairs true false false true) h
without_pairs true false false false more h = ap (by_pairs true false false false) h
without_pairs false true true true more h = ap (by_pairs false true true true) h
without_pairs false true true false more h = ap (by_pairs false true true false) h
without_pairs false true false true more h = ap (by_pairs false true false true) h
without_pairs false true false false more h = ap (by_pairs false true false false) h
without_pairs false false true true more h = ap (by_pairs false false true true) h
without_pairs false false true false more h = ap (by_pairs false false true false) h
without_pairs false false false true more h = ap (by_pairs false false false true) h
without_pairs false false false false more h = refl

-- what follows the command is no list of pairs
pub asks_without_pairs : (ws more : List (String Global)) (command : String Global) → ws ≡ command ∷ more → None ≡ pairs_in (map string_bytes more) → None ≡ invoked_in (map string_bytes ws)
asks_without_pairs ws more command e h =
    sym (ap (λ z. invoked_in (map string_bytes z)) e
    ∙ without_pairs (bytes_eq (string_bytes command) (codes "run")) (bytes_eq (string_bytes command) (codes "measure")) (bytes_eq (string_bytes command) (codes "http"))
    (bytes_eq (string_bytes command) (codes "serve")) (map string_bytes more) (sym h))

-- THE OPTIONS OF `run`

abbrev pub run_by : Bool → Option (List ℕ) → Option (List ℕ) → Option server.Options
run_by valid file base = if valid then option_map (λ b. record { file = file; base = b }) base else None

pub run_valid : (ps : Pairs) (valid : Bool) (file base : Option (List ℕ)) → valid ≡ (are_known run_names ps && are_once ps) → file ≡ value_named (codes "--data") ps
    → base ≡ base_in (value_named (codes "--id") ps) → run_by valid file base ≡ run_options (Some ps)
run_valid ps valid file base v f b = λ i. run_by (v i) (f i) (b i)

-- THE OPTIONS OF `http`

abbrev pub http_by : Bool → Option (List ℕ) → Option (List ℕ) → Option (List ℕ) → Option ℕ → Option http.Options
http_by valid file base name pump = if valid then options_of file base name pump else None

pub http_valid : (ps : Pairs) (valid : Bool) (file base name : Option (List ℕ)) (pump : Option ℕ) → valid ≡ (are_known option_names ps && are_once ps) → file ≡ value_named (codes "--data") ps
    → base ≡ base_in (value_named (codes "--id") ps) → name ≡ name_in (value_named (codes "--db") ps) → pump ≡ pump_in (value_named (codes "--pump") ps)
    → http_by valid file base name pump ≡ http_options (Some ps)
http_valid ps valid file base name pump v f b n p = λ i. http_by (v i) (f i) (b i) (n i) (p i)

-- THE OPTIONS OF `serve`

abbrev pub serve_by : Bool → Option (List ℕ) → Option (List ℕ) → Option (List ℕ) → Option serve.Counts → Option serve.Options
serve_by valid file base name counts = if valid then serve.options_of file base name counts else None

pub serve_valid : (ps : Pairs) (valid : Bool) (file base name : Option (List ℕ)) (counts : Option serve.Counts) → valid ≡ (are_known serve.option_names ps && are_once ps)
    → file ≡ value_named (codes "--data") ps → base ≡ base_in (value_named (codes "--id") ps) → name ≡ name_in (value_named (codes "--db") ps) → counts ≡ serve.counts_in ps
    → serve_by valid file base name counts ≡ serve.options_in (Some ps)
serve_valid ps valid file base name counts v f b n c = λ i. serve_by (v i) (f i) (b i) (n i) (c i)
