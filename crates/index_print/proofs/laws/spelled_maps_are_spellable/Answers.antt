use Rattle.index_print.proofs.TreesSpellable.{map_spellable}
use Rattle.index_print.proofs.laws.spelled_maps_are_spellable.Goals as goal

pub returns : goal.returns
returns c = map_spellable
