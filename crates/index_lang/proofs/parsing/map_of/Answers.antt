use Rattle.index_lang.proofs.parsing.map_of.Goals as goal

pub returns-in-Ok : goal.returns-in-Ok
returns-in-Ok c = (c.in-Ok.ensures.says, c.unbound_name-unbound.ensures c.in-Ok.ensures.says.rest c.in-Ok.ensures.says.spelling)
