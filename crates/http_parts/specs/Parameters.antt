-- The parameters of a query.
use Rattle.std.specs.Prelude.{ℕ, List, [], ◌∷◌, Option, Some, None, bytes_eq, if◌then◌else◌}
use Rattle.std.specs.Str.Lossy.{utf8_lossy}
use Rattle.form_urlencoded.specs.Form.{decode, raw_pairs}

-- the text of encoded bytes
abbrev pub text_of : List ℕ → List ℕ
text_of bytes = utf8_lossy (decode bytes)

-- the value of the first pair of this name
abbrev pub value_in : List ℕ → List (List ℕ × List ℕ) → Option (List ℕ)
value_in name [] = None
value_in name (pair ∷ pairs) = if bytes_eq (text_of pair.0) name then Some (text_of pair.1) else value_in name pairs

-- the first parameter of this name
abbrev pub parameter : List ℕ → List ℕ → Option (List ℕ)
parameter name query = value_in name (raw_pairs query)
