use Rattle.std.proofs.Common.{◌≡◌, ◌++◌, drop}
use Rattle.reduce_folds.specs.Cells.{no_row}
use Rattle.reduce_folds.proofs.row_fold.no_row.Given as goal

abbrev pub invariant-loop-field : goal.invariant-loop-field
invariant-loop-field l = l.cells ++ no_row (drop l.field-index l.fields) ≡ no_row l.fields
