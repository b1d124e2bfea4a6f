use Rattle.raven_laws.proofs.AlikeGroups.{rows-of-all}
use Rattle.raven_laws.proofs.AlikeLemmas.{found-alike}
use Rattle.raven_laws.proofs.queries.suitable_indexes_find_alike.Goals as goal

pub returns-clause-plain : goal.returns-clause-plain
returns-clause-plain c = found-alike

pub returns-clause-grouped : goal.returns-clause-grouped
returns-clause-grouped c = rows-of-all
