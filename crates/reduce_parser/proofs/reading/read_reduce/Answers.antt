use Rattle.reduce_grammar.specs.Limits.{limit}
use Rattle.reduce_grammar.specs.Reduces.{SpellsReduce}
use Rattle.reduce_grammar.specs.ReduceReading.{reduce_text}
use Rattle.reduce_grammar.proofs.ReduceKeeps.{reduce_keeps}
use Rattle.reduce_grammar.proofs.ReduceMeets.{reduce_meets}
use Rattle.token_reader.proofs.Answering.{read_says, read_only, stop_says, stop_only}
use Rattle.reduce_parser.proofs.reading.read_reduce.Goals as goal

pub returns-in-Ok-clause-says : goal.returns-in-Ok-clause-says
returns-in-Ok-clause-says c = read_says SpellsReduce limit reduce_text reduce_keeps reduce_meets c.args.tokens.now _ _ _ c.in-Ok.ensures

pub returns-in-Ok-clause-only : goal.returns-in-Ok-clause-only
returns-in-Ok-clause-only c = read_only SpellsReduce limit reduce_text reduce_keeps reduce_meets c.args.tokens.now _ _ _ c.in-Ok.ensures

pub returns-in-Err-clause-says : goal.returns-in-Err-clause-says
returns-in-Err-clause-says c =
    rw c.refusal.ensures (stop_says SpellsReduce limit reduce_text reduce_keeps reduce_meets c.args.tokens.now c.in-Err.stop c.reduce_text.new.tokens.rest.now c.in-Err.ensures)

pub returns-in-Err-clause-only : goal.returns-in-Err-clause-only
returns-in-Err-clause-only c said n x =
    rw c.refusal.ensures (stop_only SpellsReduce limit reduce_text reduce_keeps reduce_meets c.args.tokens.now c.in-Err.stop c.reduce_text.new.tokens.rest.now c.in-Err.ensures said n x)
