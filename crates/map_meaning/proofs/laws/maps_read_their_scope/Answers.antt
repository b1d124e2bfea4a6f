use Rattle.map_meaning.proofs.Reading.{reads_scope}
use Rattle.map_meaning.proofs.laws.maps_read_their_scope.Goals as goal

pub returns : goal.returns
returns c = reads_scope
