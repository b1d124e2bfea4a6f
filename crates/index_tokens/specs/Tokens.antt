-- The tokens of a text, each the longest that the bytes allow.
use Rattle.std.specs.Prelude.{ℕ, List, Option}
use Rattle.exact_tokens.specs.Tokens as tokens
use Rattle.index_tokens.specs.declared.token.Token.{Token}
use Rattle.index_tokens.specs.declared.token.Token.TheVariants as t
use Rattle.index_tokens.specs.declared.token.Placed.{Placed}
use Rattle.index_tokens.specs.Spelling.{spelled_by}
pub use Rattle.exact_tokens.specs.Tokens.{or_shorter, spelled, bad, ends, blank, token}

abbrev pub placed : ℕ → Token → Placed
placed place x = record { at = place; token = x }

-- the same, whatever bytes follow
abbrev pub placed_before : ℕ → Token → List ℕ → Placed
placed_before place x rest = placed place x

abbrev pub or_all : List ℕ → Option (Token × ℕ) → Token × ℕ
or_all = tokens.or_all t.Bad

-- The token that bytes begin with, and how many bytes spell it.
abbrev pub first_token : List ℕ → Token × ℕ
first_token = tokens.first_token spelled_by t.Bad

-- The tokens from a place on, if so many bytes still belong to the token before.
abbrev pub tokens_from : (place inside : ℕ) → List ℕ → List Placed
tokens_from = tokens.tokens_from spelled_by t.Bad placed_before t.End

abbrev pub tokens_of : List ℕ → List Placed
tokens_of bytes = tokens_from 0 0 bytes

-- THE SAME AS A RELATION

-- Which token bytes begin with, and how many bytes it takes.
abbrev pub IsFirst : List ℕ → Token → ℕ → Type 0
IsFirst = tokens.IsFirst spelled_by t.Bad

-- Which list holds the tokens of the bytes from a place on.
abbrev pub AreTokens : ℕ → List ℕ → List Placed → Type 0
AreTokens = tokens.AreTokens spelled_by t.Bad placed_before t.End
