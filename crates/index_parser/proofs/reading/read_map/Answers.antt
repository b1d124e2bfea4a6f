use Rattle.index_grammar.specs.Limits.{limit}
use Rattle.index_grammar.specs.MapReading.{map_text}
use Rattle.index_grammar.specs.Maps.{SpellsMap}
use Rattle.index_grammar.proofs.MapKeeps.{map_text_keeps}
use Rattle.index_grammar.proofs.MapMeets.{map_text_meets}
use Rattle.token_reader.proofs.Answering.{read_says, read_only, stop_says, stop_only}
use Rattle.index_parser.proofs.reading.read_map.Goals as goal

pub returns-in-Ok-clause-says : goal.returns-in-Ok-clause-says
returns-in-Ok-clause-says c = read_says SpellsMap limit map_text map_text_keeps map_text_meets c.args.tokens.now _ _ _ c.in-Ok.ensures

pub returns-in-Ok-clause-only : goal.returns-in-Ok-clause-only
returns-in-Ok-clause-only c = read_only SpellsMap limit map_text map_text_keeps map_text_meets c.args.tokens.now _ _ _ c.in-Ok.ensures

pub returns-in-Err-clause-says : goal.returns-in-Err-clause-says
returns-in-Err-clause-says c =
    rw c.refusal.ensures (stop_says SpellsMap limit map_text map_text_keeps map_text_meets c.args.tokens.now c.in-Err.stop c.map_text.new.tokens.rest.now c.in-Err.ensures)

pub returns-in-Err-clause-only : goal.returns-in-Err-clause-only
returns-in-Err-clause-only c said n x =
    rw c.refusal.ensures (stop_only SpellsMap limit map_text map_text_keeps map_text_meets c.args.tokens.now c.in-Err.stop c.map_text.new.tokens.rest.now c.in-Err.ensures said n x)
