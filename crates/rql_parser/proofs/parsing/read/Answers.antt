use Rattle.rql_parser.proofs.Answering.{read_says, stop_says}
use Rattle.rql_parser.proofs.parsing.read.Goals as goal

pub returns-in-Ok : goal.returns-in-Ok
returns-in-Ok c = read_says c.args.tokens.now _ _ _ c.in-Ok.ensures

pub returns-in-Err : goal.returns-in-Err
returns-in-Err c = rw c.refusal.ensures (stop_says c.args.tokens.now c.in-Err.stop c.query_text.new.tokens.rest.now c.in-Err.ensures)
