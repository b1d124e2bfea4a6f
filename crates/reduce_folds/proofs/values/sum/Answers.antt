use Rattle.std.proofs.Common.{rules}
use Rattle.std.proofs.lemmas.Int.{wraps}
use Rattle.reduce_folds.proofs.values.sum.Goals as goal

pub returns : goal.returns
returns c = search (rules, wraps)
