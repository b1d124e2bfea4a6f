use Rattle.spec_store.proofs.StaleLemmas.{stale-iff, fresh-iff}
use Rattle.raven_laws.proofs.indexes.stale_is_unseen.Goals as goal

pub returns-clause-stale : goal.returns-clause-stale
returns-clause-stale c = stale-iff

pub returns-clause-fresh : goal.returns-clause-fresh
returns-clause-fresh c = fresh-iff
