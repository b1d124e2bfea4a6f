use Rattle.raven_laws.proofs.DefinitionLemmas.{batch-answered, batch-others}
use Rattle.raven_laws.proofs.definitions.batches_for_one_leave_the_others.Goals as goal

pub returns-clause-answered : goal.returns-clause-answered
returns-clause-answered c = batch-answered

pub returns-clause-others : goal.returns-clause-others
returns-clause-others c = batch-others
