use Rattle.std.proofs.Common.{◌≡◌, ◌++◌, ◌+◌, ◌-◌, ◌≤◌, length, drop}
use Rattle.reduce_folds.specs.Cells.{merged_row}
use Rattle.spec_index.specs.Rows.{key_order}
use Rattle.index_groups.proofs.Merging.{merged_lists}
use Rattle.index_groups.proofs.together.merged.Given as goal

abbrev pub invariant-loop-at : goal.invariant-loop-at
invariant-loop-at l = record {
  first : l.at ≤ length l.a;
  second : l.by ≤ length l.b;
  groups : l.groups.items ++ merged_lists key_order merged_row (drop l.at l.a) (drop l.by l.b) ≡ merged_lists key_order merged_row l.a l.b;
}

abbrev pub decreases-loop-at : goal.decreases-loop-at
decreases-loop-at l = (length l.a - l.at) + (length l.b - l.by)
