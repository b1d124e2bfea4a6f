use Rattle.raven_serve.proofs.Receiving.{finished, so_far}
use Rattle.raven_serve.proofs.laws.sessions_have_receipts.Goals as goal

pub returns-clause-so_far : goal.returns-clause-so_far
returns-clause-so_far c = so_far

pub returns-clause-finished : goal.returns-clause-finished
returns-clause-finished c = finished
