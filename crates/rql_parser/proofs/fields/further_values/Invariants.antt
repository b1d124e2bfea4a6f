use Rattle.std.proofs.Common.{◌≡◌, length, map}
use Rattle.rql_tokens.specs.declared.token.Token.TheVariants as t
use Rattle.rql_grammar.specs.FieldReading.{chain, added}
use Rattle.rql_grammar.specs.FieldReading.{value}
use Rattle.rql_tree.specs.View.{operand_of}
use Rattle.rql_parser.proofs.fields.further_values.Given as goal

-- what is read from the start is what is read from here
abbrev pub invariant-loop-tokens : goal.invariant-loop-tokens
invariant-loop-tokens l = chain t.Comma value added (map operand_of l.fn.values) l.fn.tokens.count l.fn.tokens.rest.now ≡ chain t.Comma value added (map operand_of l.values) l.tokens.count l.tokens.rest.now

abbrev pub decreases-loop-tokens : goal.decreases-loop-tokens
decreases-loop-tokens l = length l.tokens.rest.now
