use Rattle.std.proofs.Common.{rules, arith}
use Rattle.std.proofs.lemmas.Grind.{common_steps}
use Rattle.rql_tokens.specs.declared.token.Token.TheVariants as t
use Rattle.rql_grammar.specs.FieldReading.{value}
use Rattle.rql_parser.proofs.Rules.{list_is}
use Rattle.rql_parser.proofs.fields.values.Goals as goal

pub returns-in_err-first : goal.returns-in_err-first
returns-in_err-first c = rw (list_is t.Comma value c.args.tokens.now.count c.args.tokens.now.rest.now) (first_of (search rules, grind (arith, common_steps)))

pub returns : goal.returns
returns c = rw (list_is t.Comma value c.args.tokens.now.count c.args.tokens.now.rest.now) (first_of (search rules, grind (arith, common_steps)))
