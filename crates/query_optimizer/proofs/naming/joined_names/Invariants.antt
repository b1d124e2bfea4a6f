use Rattle.std.proofs.Common.{◌≡◌, map, take}
use Rattle.index_tree.specs.Mapper.{joined}
use Rattle.query_optimizer.proofs.naming.joined_names.Given as goal

abbrev pub invariant-loop-path : goal.invariant-loop-path
invariant-loop-path l = l.names.items ≡ map joined (take l.path-index l.paths)
