-- What a rule of the parser ensures: the outcome of its reading, unless memory runs out.
use Rattle.std.specs.Prelude.{◌≡◌, ℕ, Result, Ok, Err}
use Rattle.exact_parse.specs.Steps.{Outcome, Read, Refused, Unexpected, TooLarge}
use Rattle.rql_tokens.specs.declared.token.Placed.{Placed}
use Rattle.rql_tokens.specs.Words.{Tokens}
use Rattle.rql_grammar.specs.Reads.{Kind, unexpected, large, late}
use Rattle.rql_parser.specs.declared.stop.Stop.{Stop}
use Rattle.rql_parser.specs.declared.stop.Stop.TheVariants as stop

abbrev pub Stops : {A : Type 0} → Outcome Placed Kind A → Stop → Tokens → Type 0
Stops o stop.NoMemory s = Unit {0}
Stops o stop.Unexpected s = o ≡ Refused (Unexpected unexpected) s
Stops o stop.TooLarge s = o ≡ Refused (TooLarge large) s
Stops o stop.ClauseOrder s = o ≡ Refused (TooLarge late) s
Stops o stop.NoPart s = o ≡ Refused (TooLarge unexpected) s

-- the result, the count and the tokens that are left are those of the outcome
abbrev pub Gives : {A : Type 0} → Outcome Placed Kind A → Result A Stop → ℕ → Tokens → Type 0
Gives o (Ok a) n s = o ≡ Read a n s
Gives o (Err e) n s = Stops o e s

-- the same of a result that is seen as something else
abbrev pub GivesAs : {R A : Type 0} → (R → A) → Outcome Placed Kind A → Result R Stop → ℕ → Tokens → Type 0
GivesAs view o (Ok a) n s = o ≡ Read (view a) n s
GivesAs view o (Err e) n s = Stops o e s
