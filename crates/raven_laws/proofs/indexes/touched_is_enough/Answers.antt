use Rattle.raven_laws.proofs.MappingLemmas.{remapped-AreResults}
use Rattle.raven_laws.proofs.indexes.touched_is_enough.Goals as goal

pub returns : goal.returns
returns c = remapped-AreResults
