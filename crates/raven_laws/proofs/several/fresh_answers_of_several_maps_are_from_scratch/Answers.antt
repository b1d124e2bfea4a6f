use Rattle.raven_laws.proofs.SeveralLemmas.{fresh-together}
use Rattle.raven_laws.proofs.several.fresh_answers_of_several_maps_are_from_scratch.Goals as goal

pub returns : goal.returns
returns c = fresh-together
