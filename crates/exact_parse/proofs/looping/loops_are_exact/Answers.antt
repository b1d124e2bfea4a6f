use Rattle.exact_parse.proofs.Loops.{loop_keeps, loop_kinds, turns_suffice}
use Rattle.exact_parse.proofs.looping.loops_are_exact.Goals as goal

pub returns-clause-keeps : goal.returns-clause-keeps
returns-clause-keeps g c k = loop_keeps k g.L.Looping.spells g.L.Looping.next g.L.Looping.keeps

pub returns-clause-turns : goal.returns-clause-turns
returns-clause-turns g c k = turns_suffice k g.L.Looping.spells g.L.Looping.next g.L.Looping.keeps

pub returns-clause-kinds : goal.returns-clause-kinds
returns-clause-kinds g c j k = loop_kinds j g.L.Looping.spells g.L.Looping.next g.L.Looping.keeps k
