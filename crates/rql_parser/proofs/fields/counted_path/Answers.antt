use Rattle.std.proofs.Common.{rules, arith}
use Rattle.std.proofs.lemmas.Grind.{common_steps}
use Rattle.rql_parser.proofs.Rules.{counted_path_is}
use Rattle.rql_parser.proofs.fields.counted_path.Goals as goal

pub returns-in_err-count_field : goal.returns-in_err-count_field
returns-in_err-count_field c = rw (counted_path_is c.args.tokens.now.count c.args.tokens.now.rest.now) (first_of (search rules, grind (arith, common_steps)))

pub returns : goal.returns
returns c = rw (counted_path_is c.args.tokens.now.count c.args.tokens.now.rest.now) (first_of (search rules, grind (arith, common_steps)))
