use Rattle.raven_laws.proofs.IndexLemmas.{Agrees-batch}
use Rattle.raven_laws.proofs.indexes.batch_agrees.Goals as goal

pub returns : goal.returns
returns c = Agrees-batch
