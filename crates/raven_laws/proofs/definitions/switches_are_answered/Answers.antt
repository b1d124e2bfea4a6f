use Rattle.raven_laws.proofs.SwitchLemmas.{switch-answered}
use Rattle.raven_laws.proofs.definitions.switches_are_answered.Goals as goal

pub returns : goal.returns
returns c = switch-answered
