use Rattle.raven_laws.proofs.PartFlags.{one-stale}
use Rattle.raven_laws.proofs.several.flags_of_several_maps_are_exact.Goals as goal

pub returns : goal.returns
returns c = one-stale
