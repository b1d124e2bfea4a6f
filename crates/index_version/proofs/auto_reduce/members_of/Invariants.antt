use Rattle.std.proofs.Common.{◌≡◌, ◌++◌, ◌∷◌, map, take}
use Rattle.index_tree.specs.Mapper.{count_name, sum_name}
use Rattle.spec_index.specs.Reduces.{key_member, sum_member}
use Rattle.index_version.proofs.auto_reduce.members_of.Given as goal

abbrev pub invariant-loop-path : goal.invariant-loop-path
invariant-loop-path l = l.members ≡ map key_member l.groups ++ sum_member count_name ∷ map (λ path. sum_member (sum_name path)) (take l.path-index l.sums)
