use Rattle.exact_parse.proofs.Exact.{unexpected_at, unexpected_only}
use Rattle.exact_parse.proofs.laws.unexpected_is_exact.Goals as goal

pub returns-clause-refused : goal.returns-clause-refused
returns-clause-refused g c = unexpected_at g.L.Language.spells g.L.Language.limit g.L.Language.reading g.L.Language.keeps g.L.Language.meets

pub returns-clause-only : goal.returns-clause-only
returns-clause-only g c = unexpected_only g.L.Language.spells g.L.Language.limit g.L.Language.reading g.L.Language.keeps g.L.Language.meets
