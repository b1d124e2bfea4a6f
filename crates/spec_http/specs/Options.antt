-- The arguments of `http`: pairs of a name and a value.
use Rattle.std.specs.Prelude.{ℕ, List, [], ◌∷◌, Bool, ◌&&◌, ◌||◌, ◌==◌, nat_le, if◌then◌else◌, Option, Some, None, codes, length}
use Rattle.std.specs.Char.{is_ascii_alphanumeric}
use Rattle.std.specs.List.{list_all}
use Rattle.std.specs.Option.{option_and_then}
use Rattle.std.specs.Str.{bytes_eq}
use Rattle.spec_server.specs.Options.{Pairs, are_known, are_once, base_in, pairs_in, value_named}
use Rattle.spec_data.specs.Digits.{number_up_to}

abbrev pub option_names : List (List ℕ)
option_names = codes "--data" ∷ codes "--id" ∷ codes "--db" ∷ codes "--pump" ∷ []

-- the file of the documents, the base id of the database and its name, and the size of the batches after each request, or 0
pub record Options : Type 0 where
  pub file : Option (List ℕ)
  pub base : List ℕ
  pub name : List ℕ
  pub pump : ℕ

-- THE NAME OF A DATABASE

-- an ASCII letter or digit, `_` or `-`
abbrev pub is_of_name : ℕ → Bool
is_of_name b = is_ascii_alphanumeric b || (b == 95 || b == 45)

-- 1 to 64 such characters
abbrev pub is_name : List ℕ → Bool
is_name text = nat_le 1 (length text) && nat_le (length text) 64 && list_all is_of_name text

abbrev pub name_in : Option (List ℕ) → Option (List ℕ)
name_in None = Some (codes "db")
name_in (Some text) = if is_name text then Some text else None

-- THE SIZE OF BATCHES

abbrev pub most : ℕ
most = 65536

abbrev pub if_within : ℕ → Option ℕ
if_within n = if nat_le n most then Some n else None

-- the number of 1 to 10 digits
abbrev pub pump_in : Option (List ℕ) → Option ℕ
pump_in None = Some 1024
pump_in (Some text) = option_and_then if_within (number_up_to 10 text)

-- THE COMMAND

abbrev pub options_of : Option (List ℕ) → Option (List ℕ) → Option (List ℕ) → Option ℕ → Option Options
options_of file (Some base) (Some name) (Some pump) = Some (record { file = file; base = base; name = name; pump = pump })
options_of file base name pump = None

abbrev pub options_in : Option Pairs → Option Options
options_in None = None
options_in (Some pairs) =
    if are_known option_names pairs && are_once pairs
    then options_of (value_named (codes "--data") pairs) (base_in (value_named (codes "--id") pairs)) (name_in (value_named (codes "--db") pairs)) (pump_in (value_named (codes "--pump") pairs))
    else None

-- whether the arguments begin with the command
abbrev pub is_http : List (List ℕ) → Option (List (List ℕ))
is_http [] = None
is_http (command ∷ more) = if bytes_eq command (codes "http") then Some more else None

-- how the arguments ask for the command, if they do
abbrev pub served_in : List (List ℕ) → Option Options
served_in arguments = option_and_then (λ more. options_in (pairs_in more)) (is_http arguments)
