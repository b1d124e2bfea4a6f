use Rattle.reduce_tree.proofs.Folds.{fold_moved}
use Rattle.reduce_tree.proofs.laws.order_changes_no_row.Goals as goal

pub returns : goal.returns
returns g c = λ fold. fold_moved (g.F.Fold.lifted fold) (g.F.Fold.none fold) g.F.Fold.merged g.met.F.Fold.associative g.met.F.Fold.commutative
