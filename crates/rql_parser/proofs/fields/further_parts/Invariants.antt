use Rattle.std.proofs.Common.{◌≡◌, length}
use Rattle.rql_tokens.specs.declared.token.Token.TheVariants as t
use Rattle.rql_grammar.specs.FieldReading.{chain, added}
use Rattle.rql_grammar.specs.FieldReading.{one_part}
use Rattle.rql_parser.proofs.fields.further_parts.Given as goal

-- what is read from the start is what is read from here
abbrev pub invariant-loop-tokens : goal.invariant-loop-tokens
invariant-loop-tokens l = chain t.Point one_part added l.fn.path l.fn.tokens.count l.fn.tokens.rest.now ≡ chain t.Point one_part added l.path l.tokens.count l.tokens.rest.now

abbrev pub decreases-loop-tokens : goal.decreases-loop-tokens
decreases-loop-tokens l = length l.tokens.rest.now
