use Rattle.exact_parse.proofs.Exact.{said, one_answer}
use Rattle.index_grammar.specs.Limits.{limit}
use Rattle.index_grammar.specs.MapReading.{map_text}
use Rattle.index_grammar.specs.Maps.{SpellsMap}
use Rattle.index_grammar.proofs.MapKeeps.{map_text_keeps}
use Rattle.index_grammar.proofs.MapMeets.{map_text_meets}
use Rattle.index_grammar.proofs.laws.maps_are_read_exactly.Goals as goal

pub returns-clause-read : goal.returns-clause-read
returns-clause-read c = said SpellsMap limit map_text map_text_keeps map_text_meets

pub returns-clause-one : goal.returns-clause-one
returns-clause-one c = one_answer SpellsMap limit map_text map_text_keeps map_text_meets
