use Rattle.index_lang.proofs.parsing.reduce_read.Goals as goal

pub returns-in-Ok : goal.returns-in-Ok
returns-in-Ok c = (c.in-Ok.ensures.says, c.unbound_in_reduce-unbound.ensures c.in-Ok.ensures.says.rest c.in-Ok.ensures.says.spelling)
