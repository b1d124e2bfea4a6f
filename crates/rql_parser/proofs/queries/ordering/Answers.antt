use Rattle.std.proofs.Common.{sym, subst}
use Rattle.exact_parse.specs.Steps.{and_then}
use Rattle.rql_tokens.specs.declared.token.Token.TheVariants as t
use Rattle.rql_grammar.specs.FieldReading.{list}
use Rattle.rql_grammar.specs.QueryReading.{one_sort}
use Rattle.rql_parser.specs.Gives.{Gives}
use Rattle.rql_parser.proofs.queries.ordering.Goals as goal

pub returns : goal.returns
returns c = subst (λ o. Gives (and_then o (λ _. list t.Comma one_sort)) c.sorts.result c.sorts.new.tokens.count c.sorts.new.tokens.rest.now) (sym c.in_ok-mark.ensures) c.sorts.ensures
