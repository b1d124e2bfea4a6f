-- What the passes over the bytes of one token find.
use Rattle.std.specs.Prelude.{ℕ, ◌+◌, List, [], Option, option_map, take}
use Rattle.exact_tokens.specs.Passes as passes
use Rattle.index_tokens.specs.declared.token.Token.{Token}
use Rattle.index_tokens.specs.declared.token.Token.TheVariants as t
use Rattle.index_tokens.specs.Spelling.{is_name_byte, is_digit, number_of, escapes, single, double}
use Rattle.index_tokens.specs.Tokens.{or_all}
pub use Rattle.exact_tokens.specs.Passes.{run}

-- Goes on after an opening quote and a part of the value and so many bytes: the value, and the count of bytes up to the closing quote.
abbrev pub text_from : List ℕ → ℕ → List ℕ → Option (List ℕ × ℕ)
text_from = passes.text_from 34 escapes

-- the token at the start of bytes that begin with a letter
abbrev pub word_prefix : List ℕ → Token × ℕ
word_prefix s = (t.Word (take (run is_name_byte s) s), run is_name_byte s)

-- of bytes that begin with a digit
abbrev pub number_prefix : List ℕ → Token × ℕ
number_prefix s = (number_of (take (run is_digit s) s), run is_digit s)

-- of a quote and the bytes behind it
abbrev pub quoted_prefix : List ℕ → List ℕ → Token × ℕ
quoted_prefix s behind = or_all s (option_map (λ part. (t.Quoted part.0, part.1 + 1)) (text_from [] 0 behind))

abbrev pub mark_at : List ℕ → Option (Token × ℕ)
mark_at = passes.mark_at single double

-- of all other bytes
abbrev pub mark_prefix : List ℕ → Token × ℕ
mark_prefix s = or_all s (mark_at s)
