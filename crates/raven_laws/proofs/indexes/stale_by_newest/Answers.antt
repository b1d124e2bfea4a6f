use Rattle.spec_store.proofs.StaleLemmas.{stale-newest}
use Rattle.raven_laws.proofs.indexes.stale_by_newest.Goals as goal

pub returns : goal.returns
returns c = stale-newest
