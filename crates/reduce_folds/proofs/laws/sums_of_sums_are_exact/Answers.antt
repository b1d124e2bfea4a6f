use Rattle.reduce_folds.proofs.Sums.{exact_sums}
use Rattle.reduce_folds.proofs.laws.sums_of_sums_are_exact.Goals as goal

pub returns : goal.returns
returns c = exact_sums
