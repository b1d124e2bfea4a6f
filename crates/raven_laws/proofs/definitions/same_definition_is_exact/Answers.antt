use Rattle.raven_laws.proofs.DefinitionLemmas.{definitions-told}
use Rattle.raven_laws.proofs.definitions.same_definition_is_exact.Goals as goal

pub returns : goal.returns
returns c = definitions-told
