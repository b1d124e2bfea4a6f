use Rattle.raven_laws.proofs.ChoiceLemmas.{auto-answered}
use Rattle.raven_laws.proofs.definitions.autos_are_answered.Goals as goal

pub returns : goal.returns
returns c = auto-answered
