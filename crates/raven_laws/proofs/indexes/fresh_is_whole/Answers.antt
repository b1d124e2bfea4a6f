use Rattle.raven_laws.proofs.IndexLemmas.{fresh_whole, fresh_exact}
use Rattle.raven_laws.proofs.indexes.fresh_is_whole.Goals as goal

pub returns-clause-whole : goal.returns-clause-whole
returns-clause-whole c = fresh_whole

pub returns-clause-up_to_cutoff : goal.returns-clause-up_to_cutoff
returns-clause-up_to_cutoff c = fresh_exact
