-- The arguments of `serve`: pairs of a name and a value.
use Rattle.std.specs.Prelude.{ℕ, List, [], ◌∷◌, ◌&&◌, nat_le, if◌then◌else◌, Option, Some, None, codes}
use Rattle.std.specs.Option.{option_and_then, option_map}
use Rattle.std.specs.Str.{bytes_eq}
use Rattle.spec_http.specs.Options.{name_in}
use Rattle.spec_server.specs.Options.{Pairs, are_known, are_once, base_in, pairs_in, value_named}
use Rattle.spec_data.specs.Digits.{number_up_to}

abbrev pub option_names : List (List ℕ)
option_names = codes "--data" ∷ codes "--id" ∷ codes "--db" ∷ codes "--port" ∷ codes "--workers" ∷ codes "--pumps" ∷ codes "--connections" ∷ []

-- The file of the documents, the base id of the database and its name; the port, or 0 for any that is free; how many connections are served at once, how
-- many pumps make batches, and how many connections are accepted in all, if there is a limit.
pub record Options : Type 0 where
  pub file : Option (List ℕ)
  pub base : List ℕ
  pub name : List ℕ
  pub port : ℕ
  pub workers : ℕ
  pub pumps : ℕ
  pub connections : Option ℕ

-- NUMBERS

-- how small and how large a number may be
pub record Range : Type 0 where
  pub least : ℕ
  pub most : ℕ

abbrev pub if_within : Range → ℕ → Option ℕ
if_within range n = if nat_le range.least n && nat_le n range.most then Some n else None

-- the number of 1 to 10 digits
abbrev pub number_within : Range → List ℕ → Option ℕ
number_within range text = option_and_then (if_within range) (number_up_to 10 text)

abbrev pub number_or : ℕ → Range → Option (List ℕ) → Option ℕ
number_or default range None = Some default
number_or default range (Some text) = number_within range text

abbrev pub ports : Range
ports = record { least = 0; most = 65535 }

abbrev pub counts_of_workers : Range
counts_of_workers = record { least = 1; most = 64 }

abbrev pub counts_of_pumps : Range
counts_of_pumps = record { least = 1; most = 16 }

abbrev pub limits : Range
limits = record { least = 1; most = 1000000 }

-- the limit, if there is one; none at all if the text is no number
abbrev pub limit_in : Option (List ℕ) → Option (Option ℕ)
limit_in None = Some None
limit_in (Some text) = option_map Some (number_within limits text)

-- THE COMMAND

-- what the counts are given as
pub record Counts : Type 0 where
  pub port : ℕ
  pub workers : ℕ
  pub pumps : ℕ
  pub connections : Option ℕ

abbrev pub counts_of : Option ℕ → Option ℕ → Option ℕ → Option (Option ℕ) → Option Counts
counts_of (Some port) (Some workers) (Some pumps) (Some connections) = Some (record { port = port; workers = workers; pumps = pumps; connections = connections })
counts_of port workers pumps connections = None

abbrev pub counts_in : Pairs → Option Counts
counts_in pairs =
    counts_of (number_or 8080 ports (value_named (codes "--port") pairs)) (number_or 4 counts_of_workers (value_named (codes "--workers") pairs)) (number_or 2 counts_of_pumps (value_named (codes "--pumps") pairs)) (limit_in (value_named (codes "--connections") pairs))

abbrev pub options_of : Option (List ℕ) → Option (List ℕ) → Option (List ℕ) → Option Counts → Option Options
options_of file (Some base) (Some name) (Some c) =
    Some (record { file = file; base = base; name = name; port = c.port; workers = c.workers; pumps = c.pumps; connections = c.connections })
options_of file base name counts = None

abbrev pub options_in : Option Pairs → Option Options
options_in None = None
options_in (Some pairs) =
    if are_known option_names pairs && are_once pairs
    then options_of (value_named (codes "--data") pairs) (base_in (value_named (codes "--id") pairs)) (name_in (value_named (codes "--db") pairs)) (counts_in pairs)
    else None

-- whether the arguments begin with the command
abbrev pub is_serve : List (List ℕ) → Option (List (List ℕ))
is_serve [] = None
is_serve (command ∷ more) = if bytes_eq command (codes "serve") then Some more else None

-- how the arguments ask for the command, if they do
abbrev pub asked_in : List (List ℕ) → Option Options
asked_in arguments = option_and_then (λ more. options_in (pairs_in more)) (is_serve arguments)
