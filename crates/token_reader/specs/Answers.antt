-- What an answer says of the tokens of a text.
use Rattle.std.specs.Prelude.{◌≡◌, ◌≢◌, Result, Ok, Err, ◌⊎◌}
use Rattle.exact_parse.specs.Exact.{SpellsText, UnexpectedAt, TooLargeAt}
use Rattle.exact_parse.specs.Limits.{Verdict}
use Rattle.index_tokens.specs.declared.token.Placed.{Placed}
use Rattle.index_tokens.specs.Reads.{Kind}
use Rattle.index_tokens.specs.Words.{Tokens, place_of}
use Rattle.token_reader.specs.declared.refusal.Refusal.{Refusal}
use Rattle.token_reader.specs.declared.refusal.Refusal.TheVariants as refusal
use Rattle.token_reader.specs.declared.stop.Stop.{Stop}
use Rattle.token_reader.specs.declared.stop.Stop.TheVariants as stop

-- the answer is this one, unless memory runs out
abbrev pub IsUnlessNoMemory : {A : Type 0} → Result A Refusal → Result A Refusal → Type 0
IsUnlessNoMemory answer said = (answer ≡ Err refusal.NoMemory) ⊎ (answer ≡ said)

module _ {A : Type 0} (X : Tokens → A → Tokens → Type 0) (limit : (s : Tokens) (a : A) (r : Tokens) → X s a r → Verdict Placed Kind) where
  -- The tokens spell this tree within the limits; or they have this refused token, `p` being the tokens from it on. Out of memory says nothing.
  abbrev pub Says : Tokens → Result A Refusal → Type 0
  Says ts (Ok a) = SpellsText X limit ts a
  Says ts (Err refusal.NoMemory) = Unit {0}
  Says ts (Err (refusal.Unexpected at)) = (p : Tokens) × UnexpectedAt X limit ts p × (at ≡ place_of p)
  Says ts (Err (refusal.TooLarge at)) = (p : Tokens) × TooLargeAt X limit tt ts p × (at ≡ place_of p)

  -- Whatever says something true of the tokens is this answer, unless memory runs out.
  abbrev pub SaysOnly : Tokens → Result A Refusal → Type 0
  SaysOnly ts answer = (said : Result A Refusal) → said ≢ Err refusal.NoMemory → Says ts said → IsUnlessNoMemory answer said

-- what a stop at the first of these tokens refuses
abbrev pub refusal_at : Stop → Tokens → Refusal
refusal_at stop.NoMemory s = refusal.NoMemory
refusal_at stop.Unexpected s = refusal.Unexpected (place_of s)
refusal_at stop.TooLarge s = refusal.TooLarge (place_of s)
