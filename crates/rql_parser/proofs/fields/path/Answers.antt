use Rattle.std.proofs.Common.{rules, arith}
use Rattle.std.proofs.lemmas.Grind.{common_steps}
use Rattle.rql_parser.proofs.Rules.{path_is}
use Rattle.rql_parser.proofs.fields.path.Goals as goal

pub returns-in_err-first : goal.returns-in_err-first
returns-in_err-first c = rw (path_is c.args.tokens.now.count c.args.tokens.now.rest.now) (first_of (search rules, grind (arith, common_steps)))

pub returns : goal.returns
returns c = rw (path_is c.args.tokens.now.count c.args.tokens.now.rest.now) (first_of (search rules, grind (arith, common_steps)))
