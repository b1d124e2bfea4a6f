use Rattle.exact_parse.proofs.Exact.{read_text}
use Rattle.exact_parse.proofs.laws.what_is_read_is_spelled.Goals as goal

pub returns : goal.returns
returns g c = λ ts r a n. read_text g.L.Language.spells g.L.Language.limit g.L.Language.reading g.L.Language.keeps g.L.Language.meets ts a n r
