-- The arguments of `measure`: pairs of a name and a value, whose values are numbers.
use Rattle.std.specs.Prelude.{ℕ, List, [], ◌∷◌, ◌&&◌, nat_le, if◌then◌else◌, Option, Some, None, codes}
use Rattle.std.specs.Option.{option_and_then}
use Rattle.std.specs.Str.{bytes_eq}
use Rattle.spec_server.specs.Options.{Pairs, are_known, are_once, pairs_in, value_named}
use Rattle.spec_data.specs.Digits.{number_up_to}
use Rattle.spec_measure.specs.Requests.{Options}

abbrev pub option_names : List (List ℕ)
option_names = codes "--seed" ∷ codes "--docs" ∷ codes "--batch" ∷ []

-- how large a number may be, and which it is if it is not given
pub record Range : Type 0 where
  pub default : ℕ
  pub most : ℕ

abbrev pub if_within : ℕ → ℕ → Option ℕ
if_within most n = if nat_le 1 n && nat_le n most then Some n else None

-- the number of 1 to 10 digits, from 1 on
abbrev pub number_within : ℕ → List ℕ → Option ℕ
number_within most text = option_and_then (if_within most) (number_up_to 10 text)

abbrev pub number_in : Range → Option (List ℕ) → Option ℕ
number_in range None = Some range.default
number_in range (Some text) = number_within range.most text

abbrev pub seeds : Range
seeds = record { default = 1; most = 2147483646 }

abbrev pub counts : Range
counts = record { default = 2000; most = 200000 }

abbrev pub batch_sizes : Range
batch_sizes = record { default = 1024; most = 65536 }

abbrev pub options_of : Option ℕ → Option ℕ → Option ℕ → Option Options
options_of (Some seed) (Some docs) (Some batch) = Some (record { seed = seed; docs = docs; batch = batch })
options_of seed docs batch = None

abbrev pub options_in : Option Pairs → Option Options
options_in None = None
options_in (Some pairs) =
    if are_known option_names pairs && are_once pairs
    then options_of (number_in seeds (value_named (codes "--seed") pairs)) (number_in counts (value_named (codes "--docs") pairs)) (number_in batch_sizes (value_named (codes "--batch") pairs))
    else None

-- whether the arguments begin with the command
abbrev pub is_measure : List (List ℕ) → Option (List (List ℕ))
is_measure [] = None
is_measure (command ∷ more) = if bytes_eq command (codes "measure") then Some more else None

-- how the arguments ask for the command, if they do
abbrev pub measured_in : List (List ℕ) → Option Options
measured_in arguments = option_and_then (λ more. options_in (pairs_in more)) (is_measure arguments)
