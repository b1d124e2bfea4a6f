use Rattle.raven_laws.proofs.CoverLemmas.{retired-outdone}
use Rattle.raven_laws.proofs.queries.retired_indexes_are_outdone.Goals as goal

pub returns : goal.returns
returns c = retired-outdone
