use Rattle.exact_parse.proofs.Exact.{text_read}
use Rattle.exact_parse.proofs.laws.what_is_spelled_is_read.Goals as goal

pub returns : goal.returns
returns g c = text_read g.L.Language.spells g.L.Language.limit g.L.Language.reading g.L.Language.keeps g.L.Language.meets
