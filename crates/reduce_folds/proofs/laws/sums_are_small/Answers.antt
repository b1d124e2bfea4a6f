use Rattle.reduce_folds.proofs.Sums.{sum_size}
use Rattle.reduce_folds.proofs.laws.sums_are_small.Goals as goal

pub returns : goal.returns
returns c = sum_size
