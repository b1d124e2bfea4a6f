use Rattle.raven_laws.proofs.CleaningLemmas.{clean-answered}
use Rattle.raven_laws.proofs.cleaning.cleanings_are_answered.Goals as goal

pub returns : goal.returns
returns c = clean-answered
