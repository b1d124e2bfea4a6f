use Rattle.exact_parse.proofs.Exact.{again}
use Rattle.exact_parse.proofs.laws.later_tokens_do_not_count.Goals as goal

pub returns : goal.returns
returns g c = again g.L.Language.spells g.L.Language.limit g.L.Language.reading g.L.Language.keeps g.L.Language.meets
