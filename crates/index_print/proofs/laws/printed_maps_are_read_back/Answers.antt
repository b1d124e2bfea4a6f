use Rattle.index_print.proofs.MapSpells.{map_read_back}
use Rattle.index_print.proofs.laws.printed_maps_are_read_back.Goals as goal

pub returns : goal.returns
returns c = map_read_back
