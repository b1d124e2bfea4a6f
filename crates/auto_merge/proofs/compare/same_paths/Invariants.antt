use Rattle.std.proofs.Common.{◌≡◌, length}
use Rattle.std.specs.Cmp.Lexicographic.{pointwise}
use Rattle.spec_index.specs.Optimiser.{same_path}
use Rattle.auto_merge.proofs.compare.same_paths.Given as goal

-- what is left of both tells whether all are the same
abbrev pub invariant-loop-path : goal.invariant-loop-path
invariant-loop-path l = pointwise same_path l.left l.right ≡ pointwise same_path l.paths l.others

abbrev pub decreases-loop-path : goal.decreases-loop-path
decreases-loop-path l = length l.left
