use Rattle.raven_laws.proofs.WorkerLemmas.{read-answered}
use Rattle.raven_laws.proofs.workers.reads_are_answered.Goals as goal

pub returns : goal.returns
returns c = read-answered
