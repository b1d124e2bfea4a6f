use Rattle.raven_laws.proofs.DefinitionLemmas.{remove-answered}
use Rattle.raven_laws.proofs.definitions.removals_are_answered.Goals as goal

pub returns : goal.returns
returns c = remove-answered
