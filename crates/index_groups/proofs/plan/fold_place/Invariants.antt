use Rattle.std.proofs.Common.{◌≡◌, ◌+◌, ◌-◌, ◌≤◌, drop, length}
use Rattle.index_groups.specs.Cells.{fold_place}
use Rattle.index_groups.proofs.plan.fold_place.Given as goal

abbrev pub invariant-loop-place : goal.invariant-loop-place
invariant-loop-place l = record {
  within : l.place ≤ length l.folds;
  left : l.place + fold_place l.kind l.field (drop l.place l.folds) ≡ fold_place l.kind l.field l.folds;
}

abbrev pub decreases-loop-place : goal.decreases-loop-place
decreases-loop-place l = length l.folds - l.place
