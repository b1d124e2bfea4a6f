-- The arguments of the program: a command, and then pairs of a name and a value.
use Rattle.std.specs.Prelude.{ℕ, List, [], ◌∷◌, Bool, true, false, not, ◌&&◌, if◌then◌else◌, Option, Some, None, codes}
use Rattle.std.specs.Option.{option_map}
use Rattle.std.specs.List.{list_all, list_any}
use Rattle.std.specs.Str.{bytes_eq}
use Rattle.spec_store.specs.Commit.{Setting}
use Rattle.spec_server.specs.Lines.{begins_with}
use Rattle.spec_store.specs.Limits.{base_id, program, is_base_id}

-- PAIRS

-- a value has a byte, and does not begin with `-`
abbrev pub is_value : List ℕ → Bool
is_value [] = false
is_value (b ∷ bs) = not (begins_with 45 (b ∷ bs))

abbrev pub Pairs : Type 0
Pairs = List (List ℕ × List ℕ)

abbrev pub with_pair : List ℕ → List ℕ → Option Pairs → Option Pairs
with_pair name value pairs = if is_value value then option_map (λ ps. (name, value) ∷ ps) pairs else None

abbrev pub pairs_in : List (List ℕ) → Option Pairs
pairs_in [] = Some []
pairs_in (name ∷ []) = None
pairs_in (name ∷ value ∷ more) = with_pair name value (pairs_in more)

abbrev pub has_name : Pairs → List ℕ → Bool
has_name pairs name = list_any (λ p. bytes_eq p.0 name) pairs

-- no name is given twice
abbrev pub are_once : Pairs → Bool
are_once [] = true
are_once (p ∷ ps) = not (has_name ps p.0) && are_once ps

-- each name is one of these
abbrev pub are_known : List (List ℕ) → Pairs → Bool
are_known names pairs = list_all (λ p. list_any (bytes_eq p.0) names) pairs

abbrev pub value_named : List ℕ → Pairs → Option (List ℕ)
value_named name [] = None
value_named name (p ∷ ps) = if bytes_eq p.0 name then Some p.1 else value_named name ps

-- THE OPTIONS OF `run`

pub record Options : Type 0 where
  pub file : Option (List ℕ)
  pub base : List ℕ

abbrev pub run_names : List (List ℕ)
run_names = codes "--data" ∷ codes "--id" ∷ []

abbrev pub base_in : Option (List ℕ) → Option (List ℕ)
base_in None = Some base_id
base_in (Some text) = if is_base_id text then Some text else None

abbrev pub run_options : Option Pairs → Option Options
run_options None = None
run_options (Some pairs) =
    if are_known run_names pairs && are_once pairs
    then option_map (λ base. record { file = value_named (codes "--data") pairs; base = base }) (base_in (value_named (codes "--id") pairs))
    else None

-- THE COMMAND LINE

-- what the arguments ask the program to do
pub data Invocation : Type 0 where
  Run : Options → Invocation

-- what these arguments ask, if they are valid
abbrev pub asked_in : List (List ℕ) → Option Invocation
asked_in [] = None
asked_in (command ∷ more) = if bytes_eq command (codes "run") then option_map Invocation.Run (run_options (pairs_in more)) else None

-- THE SETTING

-- the setting of the program with this base id
abbrev pub setting_with : List ℕ → Setting
setting_with base = record { base = base; max_rows = program.max_rows; max_slots = program.max_slots; max_notes = program.max_notes }
