use Rattle.std.proofs.Common.{◌≡◌, take, map}
use Rattle.spec_data.specs.Data.{text}
use Rattle.index_definition.proofs.rows.texts_value.Given as goal

abbrev pub invariant-loop-text : goal.invariant-loop-text
invariant-loop-text l = l.values ≡ map text (take l.text-index l.texts)
