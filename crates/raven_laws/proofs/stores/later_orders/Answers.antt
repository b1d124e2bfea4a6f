use Rattle.spec_store.proofs.LaterLemmas.{Later-itself, Later-then}
use Rattle.raven_laws.proofs.stores.later_orders.Goals as goal

pub returns-clause-itself : goal.returns-clause-itself
returns-clause-itself c = Later-itself

pub returns-clause-steps : goal.returns-clause-steps
returns-clause-steps c = Later-then
