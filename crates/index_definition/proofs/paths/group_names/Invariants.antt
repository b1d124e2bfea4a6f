use Rattle.std.proofs.Common.{◌≡◌, ◌++◌, ◌∷◌, map, take}
use Rattle.index_tree.specs.Mapper.{count_name, joined, sum_name}
use Rattle.index_definition.proofs.paths.group_names.Given as goal

abbrev pub invariant-loop-sum : goal.invariant-loop-sum
invariant-loop-sum l = l.names ≡ map joined l.groups ++ count_name ∷ map sum_name (take l.sum-index l.sums)
