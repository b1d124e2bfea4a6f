use Rattle.exact_parse.proofs.Exact.{said, one_answer, no_both}
use Rattle.exact_parse.proofs.laws.answers_are_one.Goals as goal

pub returns-clause-some : goal.returns-clause-some
returns-clause-some g c = said g.L.Language.spells g.L.Language.limit g.L.Language.reading g.L.Language.keeps g.L.Language.meets

pub returns-clause-one : goal.returns-clause-one
returns-clause-one g c = one_answer g.L.Language.spells g.L.Language.limit g.L.Language.reading g.L.Language.keeps g.L.Language.meets

pub returns-clause-apart : goal.returns-clause-apart
returns-clause-apart g c = no_both g.L.Language.spells g.L.Language.limit g.L.Language.reading g.L.Language.keeps g.L.Language.meets
