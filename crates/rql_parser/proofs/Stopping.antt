-- What stops the first of two readings stops both.
use Rattle.std.proofs.Common.{◌≡◌, ◌∙◌, ap}
use Rattle.exact_parse.specs.Steps.{Outcome, and_then}
use Rattle.rql_tokens.specs.declared.token.Placed.{Placed}
use Rattle.rql_tokens.specs.Words.{Tokens}
use Rattle.rql_grammar.specs.Reads.{Kind, Reads}
use Rattle.rql_parser.specs.declared.stop.Stop.{Stop}
use Rattle.rql_parser.specs.declared.stop.Stop.TheVariants as stop
use Rattle.rql_parser.specs.Gives.{Stops}

pub stops_then : {A B : Type 0} (o : Outcome Placed Kind B) (i : Outcome Placed Kind A) (f : A → Reads B) (e : Stop) (s : Tokens) → o ≡ and_then i f → Stops i e s → Stops o e s
stops_then o i f stop.NoMemory s is h = tt
stops_then o i f stop.Unexpected s is h = is ∙ ap (λ i. and_then i f) h
stops_then o i f stop.TooLarge s is h = is ∙ ap (λ i. and_then i f) h
stops_then o i f stop.ClauseOrder s is h = is ∙ ap (λ i. and_then i f) h
stops_then o i f stop.NoPart s is h = is ∙ ap (λ i. and_then i f) h
