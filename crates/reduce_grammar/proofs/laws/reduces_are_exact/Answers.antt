use Rattle.reduce_grammar.proofs.ReduceKeeps.{reduce_keeps}
use Rattle.reduce_grammar.proofs.ReduceMeets.{reduce_meets}
use Rattle.reduce_grammar.proofs.laws.reduces_are_exact.Goals as goal

pub returns-clause-keeps : goal.returns-clause-keeps
returns-clause-keeps c = reduce_keeps

pub returns-clause-meets : goal.returns-clause-meets
returns-clause-meets c = reduce_meets
