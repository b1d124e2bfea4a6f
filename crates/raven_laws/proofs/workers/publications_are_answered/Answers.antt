use Rattle.raven_laws.proofs.WorkerLemmas.{publish-answered}
use Rattle.raven_laws.proofs.workers.publications_are_answered.Goals as goal

pub returns : goal.returns
returns c = publish-answered
