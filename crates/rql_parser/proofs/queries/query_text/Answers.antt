use Rattle.std.proofs.Common.{rules, arith}
use Rattle.std.proofs.lemmas.Grind.{common_steps}
use Rattle.rql_parser.proofs.Clauses.{query_text_is}
use Rattle.rql_parser.proofs.queries.query_text.Goals as goal

pub returns-in_err-mark : goal.returns-in_err-mark
returns-in_err-mark c = rw (query_text_is c.args.tokens.now.count c.args.tokens.now.rest.now) (first_of (search rules, grind (arith, common_steps)))

pub returns-in_err-origin : goal.returns-in_err-origin
returns-in_err-origin c = rw (query_text_is c.args.tokens.now.count c.args.tokens.now.rest.now) (first_of (search rules, grind (arith, common_steps)))

pub returns-in_err-query : goal.returns-in_err-query
returns-in_err-query c = rw (query_text_is c.args.tokens.now.count c.args.tokens.now.rest.now) (first_of (search rules, grind (arith, common_steps)))

pub returns-in_err-mark-2 : goal.returns-in_err-mark-2
returns-in_err-mark-2 c = rw (query_text_is c.args.tokens.now.count c.args.tokens.now.rest.now) (first_of (search rules, grind (arith, common_steps)))

pub returns : goal.returns
returns c = rw (query_text_is c.args.tokens.now.count c.args.tokens.now.rest.now) (first_of (search rules, grind (arith, common_steps)))
