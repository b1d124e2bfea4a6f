use Rattle.raven_laws.proofs.WorldLemmas.{LaterW-itself, LaterW-then}
use Rattle.raven_laws.proofs.runs.later_worlds_order.Goals as goal

pub returns-clause-itself : goal.returns-clause-itself
returns-clause-itself c = LaterW-itself

pub returns-clause-steps : goal.returns-clause-steps
returns-clause-steps c = LaterW-then
