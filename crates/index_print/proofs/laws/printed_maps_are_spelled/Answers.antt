use Rattle.index_print.proofs.MapSpells.{map_spelled}
use Rattle.index_print.proofs.laws.printed_maps_are_spelled.Goals as goal

pub returns : goal.returns
returns c = map_spelled
