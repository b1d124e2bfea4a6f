-- The tokens of a text, each the longest that the bytes allow.
use Rattle.std.specs.Prelude.{◌==◌, ℕ, Bool, false, List, [], ◌∷◌, if◌then◌else◌, Option}
use Rattle.exact_tokens.specs.Bytes.{is_blank}
use Rattle.exact_tokens.specs.Tokens as tokens
use Rattle.rql_tokens.specs.declared.token.Token.{Token}
use Rattle.rql_tokens.specs.declared.token.Token.TheVariants as t
use Rattle.rql_tokens.specs.declared.token.Placed.{Placed}
use Rattle.rql_tokens.specs.Spelling.{spelled_by}

-- whether `(` is the first byte that is no blank
abbrev pub opens : List ℕ → Bool
opens [] = false
opens (b ∷ bs) = if is_blank b then opens bs else (b == 40)

abbrev pub placed : ℕ → Token → Bool → Placed
placed place x called = record { at = place; token = x; called = called }

-- the same, before these bytes
abbrev pub placed_before : ℕ → Token → List ℕ → Placed
placed_before place x rest = placed place x (opens rest)

abbrev pub or_all : List ℕ → Option (Token × ℕ) → Token × ℕ
or_all = tokens.or_all t.Bad

-- The token that bytes begin with, and how many bytes spell it.
abbrev pub first_token : List ℕ → Token × ℕ
first_token = tokens.first_token spelled_by t.Bad

-- The tokens from a place on, if so many bytes still belong to the token before.
abbrev pub tokens_from : (place inside : ℕ) → List ℕ → List Placed
tokens_from = tokens.tokens_from spelled_by t.Bad placed_before t.End

abbrev pub tokens_of : List ℕ → List Placed
tokens_of bytes = tokens_from 0 0 bytes

-- The same as a relation: which list holds the tokens of the bytes from a place on.
abbrev pub AreTokens : ℕ → List ℕ → List Placed → Type 0
AreTokens = tokens.AreTokens spelled_by t.Bad placed_before t.End
