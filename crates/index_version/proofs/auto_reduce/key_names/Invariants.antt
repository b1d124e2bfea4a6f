use Rattle.std.proofs.Common.{◌≡◌, map, take}
use Rattle.index_tree.specs.Mapper.{joined}
use Rattle.index_version.proofs.auto_reduce.key_names.Given as goal

abbrev pub invariant-loop-path : goal.invariant-loop-path
invariant-loop-path l = l.names ≡ map joined (take l.path-index l.groups)
