use Rattle.std.proofs.Common.{◌≡◌, take, map}
use Rattle.index_tree.specs.Mapper.{joined}
use Rattle.index_definition.proofs.paths.joined_names.Given as goal

abbrev pub invariant-loop-path : goal.invariant-loop-path
invariant-loop-path l = l.names ≡ map joined (take l.path-index l.paths)
