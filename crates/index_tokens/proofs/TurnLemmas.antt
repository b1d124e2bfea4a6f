-- The tokens from a place on, token by token.
use Rattle.std.proofs.Common.{◌≡◌, ◌+◌, ℕ, List, [], ◌∷◌, drop, true, false}
use Rattle.exact_tokens.proofs.TurnLemmas as turns
use Rattle.exact_tokens.proofs.LawLemmas as laws
use Rattle.index_tokens.specs.declared.token.Token.{Token}
use Rattle.index_tokens.specs.declared.token.Token.TheVariants as t
use Rattle.index_tokens.specs.declared.token.Placed.{Placed}
use Rattle.index_tokens.specs.Spelling.{is_blank, spelled_by}
use Rattle.index_tokens.specs.Tokens.{placed, placed_before, first_token, tokens_from, tokens_of, AreTokens}

pub at_end : (s : List ℕ) (place : ℕ) → s ≡ [] → tokens_from place 0 s ≡ placed place t.End ∷ []
at_end = turns.at_end spelled_by t.Bad placed_before t.End

pub at_blank : (s bs : List ℕ) (b place : ℕ) → s ≡ b ∷ bs → is_blank b ≡ true → tokens_from place 0 s ≡ tokens_from (place + 1) 0 bs
at_blank = turns.at_blank spelled_by t.Bad placed_before t.End

pub at_token : (s bs : List ℕ) (b place n : ℕ) (x : Token) → s ≡ b ∷ bs → is_blank b ≡ false → (x, n) ≡ first_token s → tokens_from place 0 s ≡ placed place x ∷ tokens_from (place + n) 0 (drop n s)
at_token = turns.at_token spelled_by t.Bad placed_before t.End

-- Each token of the list is the longest that the bytes allow.
pub all_longest : (s : List ℕ) (tokens : List Placed) → tokens ≡ tokens_of s → AreTokens 0 s tokens
all_longest = laws.all_longest spelled_by t.Bad placed_before t.End
