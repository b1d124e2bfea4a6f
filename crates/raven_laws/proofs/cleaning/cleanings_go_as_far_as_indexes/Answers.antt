use Rattle.raven_laws.proofs.CleaningLemmas.{reached-iff}
use Rattle.raven_laws.proofs.cleaning.cleanings_go_as_far_as_indexes.Goals as goal

pub returns : goal.returns
returns c = reached-iff
