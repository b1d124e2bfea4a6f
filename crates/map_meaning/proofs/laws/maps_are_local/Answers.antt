use Rattle.index_tree.specs.Local.{meaning_local}
use Rattle.map_meaning.proofs.laws.maps_are_local.Goals as goal

pub returns : goal.returns
returns c = meaning_local
