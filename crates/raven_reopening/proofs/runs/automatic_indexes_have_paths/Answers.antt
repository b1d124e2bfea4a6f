use Rattle.raven_reopening.proofs.BackLemmas.{run-kept}
use Rattle.raven_reopening.proofs.ShapeLemmas.{kept-apart, names-apart}
use Rattle.raven_reopening.proofs.runs.automatic_indexes_have_paths.Goals as goal

pub returns-clause-paths : goal.returns-clause-paths
returns-clause-paths c = run-kept

pub returns-clause-told : goal.returns-clause-told
returns-clause-told c = kept-apart

pub returns-clause-named : goal.returns-clause-named
returns-clause-named c = names-apart
