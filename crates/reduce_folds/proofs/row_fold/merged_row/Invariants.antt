use Rattle.std.proofs.Common.{◌≡◌, ◌++◌, ◌-◌, ◌≤◌, length, drop}
use Rattle.reduce_folds.specs.Cells.{merged_row}
use Rattle.reduce_folds.proofs.row_fold.merged_row.Given as goal

abbrev pub invariant-loop-at : goal.invariant-loop-at
invariant-loop-at l = record {
  first : l.at ≤ length l.a;
  second : l.at ≤ length l.b;
  cells : l.cells ++ merged_row (drop l.at l.a) (drop l.at l.b) ≡ merged_row l.a l.b;
}

abbrev pub decreases-loop-at : goal.decreases-loop-at
decreases-loop-at l = length l.a - l.at
