use Rattle.raven_reopening.proofs.ReadLemmas.{forms-read}
use Rattle.raven_reopening.proofs.kept.stores_open_again.Goals as goal

pub returns : goal.returns
returns c = forms-read
