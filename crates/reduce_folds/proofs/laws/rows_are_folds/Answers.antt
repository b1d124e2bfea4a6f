use Rattle.reduce_folds.proofs.Sums.{row_is}
use Rattle.reduce_folds.proofs.laws.rows_are_folds.Goals as goal

pub returns : goal.returns
returns c = row_is
