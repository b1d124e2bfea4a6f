use Rattle.raven_laws.proofs.KeepLemmas.{held-run, held-lines}
use Rattle.raven_laws.proofs.keeping.keepers_store_every_run.Goals as goal

pub returns-clause-requests : goal.returns-clause-requests
returns-clause-requests c = held-run

pub returns-clause-lines : goal.returns-clause-lines
returns-clause-lines c = held-lines
