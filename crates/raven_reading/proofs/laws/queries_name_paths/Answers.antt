use Rattle.raven_reading.proofs.AskedLemmas.{query-asked}
use Rattle.raven_reading.proofs.Formed.{query-formed}
use Rattle.raven_reading.proofs.laws.queries_name_paths.Goals as goal

pub returns-clause-asked : goal.returns-clause-asked
returns-clause-asked c = query-asked

pub returns-clause-formed : goal.returns-clause-formed
returns-clause-formed c text q utf8 says = query-formed q (query-asked text q utf8 says)
