use Rattle.reduce_folds.proofs.Sums.{exact_fold}
use Rattle.reduce_folds.proofs.laws.sums_are_exact.Goals as goal

pub returns : goal.returns
returns c = exact_fold
