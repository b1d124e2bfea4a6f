use Rattle.raven_laws.proofs.DefinitionLemmas.{define-answered}
use Rattle.raven_laws.proofs.definitions.definitions_are_answered.Goals as goal

pub returns : goal.returns
returns c = define-answered
