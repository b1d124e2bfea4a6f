-- What the passes over the bytes of one token find.
use Rattle.std.specs.Prelude.{ℕ, ◌+◌, List, [], ◌∷◌, if◌then◌else◌, Option, Some, None, option_map, take}
use Rattle.exact_tokens.specs.Bytes.{is_digit, is_name_byte}
use Rattle.exact_tokens.specs.Passes.{run}
use Rattle.exact_tokens.specs.Passes as passes
use Rattle.rql_tokens.specs.declared.token.Token.{Token}
use Rattle.rql_tokens.specs.declared.token.Token.TheVariants as t
use Rattle.rql_tokens.specs.Spelling.{word_of, positive, negative, is_number_byte, escapes, single, double}
use Rattle.rql_tokens.specs.Tokens.{or_all}

-- Goes on after an opening quote and a part of the value and so many bytes: the value, and the count of bytes up to the closing quote.
abbrev pub text_from : ℕ → List ℕ → ℕ → List ℕ → Option (List ℕ × ℕ)
text_from quote = passes.text_from quote (escapes quote)

-- the token at the start of bytes that begin with a letter
abbrev pub word_prefix : List ℕ → Token × ℕ
word_prefix s = (word_of (take (run is_name_byte s) s), run is_name_byte s)

-- of bytes that begin with a digit
abbrev pub number_prefix : List ℕ → Token × ℕ
number_prefix s = (positive (take (run is_number_byte s) s), run is_number_byte s)

abbrev pub negative_at : List ℕ → Option (Token × ℕ)
negative_at [] = None
negative_at (b ∷ bs) =
    if is_digit b then Some (negative (take (run is_number_byte (b ∷ bs)) (b ∷ bs)), run is_number_byte (b ∷ bs) + 1) else None

-- of `-` and the bytes behind it
abbrev pub negative_prefix : List ℕ → List ℕ → Token × ℕ
negative_prefix s behind = or_all s (negative_at behind)

-- of a quote and the bytes behind it
abbrev pub quoted_prefix : ℕ → List ℕ → List ℕ → Token × ℕ
quoted_prefix quote s behind = or_all s (option_map (λ part. (t.Quoted part.0, part.1 + 1)) (text_from quote [] 0 behind))

abbrev pub mark_at : List ℕ → Option (Token × ℕ)
mark_at = passes.mark_at single double

-- of all other bytes
abbrev pub mark_prefix : List ℕ → Token × ℕ
mark_prefix s = or_all s (mark_at s)
