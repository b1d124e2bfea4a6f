use Rattle.raven_laws.proofs.CoverLemmas.{covers-told}
use Rattle.raven_laws.proofs.queries.covering_is_exact.Goals as goal

pub returns : goal.returns
returns c = covers-told
