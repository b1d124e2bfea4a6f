use Rattle.std.proofs.Common.{◌≡◌, take, map}
use Rattle.spec_index.specs.World.{text_list}
use Rattle.index_definition.proofs.rows.paths_value.Given as goal

abbrev pub invariant-loop-path : goal.invariant-loop-path
invariant-loop-path l = l.values ≡ map text_list (take l.path-index l.paths)
