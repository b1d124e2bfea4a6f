use Rattle.std.proofs.Common.{◌≡◌, length}
use Rattle.rql_tokens.specs.declared.token.Token.TheVariants as t
use Rattle.rql_grammar.specs.FieldReading.{chain, added}
use Rattle.rql_grammar.specs.QueryReading.{one_sort}
use Rattle.rql_parser.proofs.queries.further_sorts.Given as goal

-- what is read from the start is what is read from here
abbrev pub invariant-loop-tokens : goal.invariant-loop-tokens
invariant-loop-tokens l = chain t.Comma one_sort added l.fn.sorts l.fn.tokens.count l.fn.tokens.rest.now ≡ chain t.Comma one_sort added l.sorts l.tokens.count l.tokens.rest.now

abbrev pub decreases-loop-tokens : goal.decreases-loop-tokens
decreases-loop-tokens l = length l.tokens.rest.now
