use Rattle.raven_laws.proofs.SeveralLemmas.{parts-rows}
use Rattle.raven_laws.proofs.several.rows_of_several_maps_are_of_their_parts.Goals as goal

pub returns : goal.returns
returns c = parts-rows
