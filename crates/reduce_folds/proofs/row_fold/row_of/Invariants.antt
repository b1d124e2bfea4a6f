use Rattle.std.proofs.Common.{◌≡◌, ◌++◌, drop}
use Rattle.reduce_folds.specs.Cells.{row_of}
use Rattle.reduce_folds.proofs.row_fold.row_of.Given as goal

abbrev pub invariant-loop-field : goal.invariant-loop-field
invariant-loop-field g l = l.cells ++ row_of (drop l.field-index l.fields) (g.E.HasFields.fields l.entry) ≡ row_of l.fields (g.E.HasFields.fields l.entry)
