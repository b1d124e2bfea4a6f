-- What a rule of a parser ensures: the outcome of its reading, unless memory runs out.
use Rattle.std.specs.Prelude.{◌≡◌, ℕ, Result, Ok, Err}
use Rattle.exact_parse.specs.Steps.{Outcome, Read, Refused, Unexpected, TooLarge}
use Rattle.index_tokens.specs.declared.token.Placed.{Placed}
use Rattle.index_tokens.specs.Reads.{Kind}
use Rattle.index_tokens.specs.Words.{Tokens}
use Rattle.token_reader.specs.declared.stop.Stop.{Stop}
use Rattle.token_reader.specs.declared.stop.Stop.TheVariants as stop

abbrev pub Stops : {A : Type 0} → Outcome Placed Kind A → Stop → Tokens → Type 0
Stops o stop.NoMemory s = Unit {0}
Stops o stop.Unexpected s = o ≡ Refused (Unexpected tt) s
Stops o stop.TooLarge s = o ≡ Refused (TooLarge tt) s

-- the result, the count and the tokens that are left are those of the outcome
abbrev pub Gives : {A : Type 0} → Outcome Placed Kind A → Result A Stop → ℕ → Tokens → Type 0
Gives o (Ok a) n s = o ≡ Read a n s
Gives o (Err e) n s = Stops o e s
