use Rattle.reduce_tree.proofs.Folds.{fold_parted}
use Rattle.reduce_tree.proofs.laws.parts_give_the_whole.Goals as goal

pub returns : goal.returns
returns g c = λ fold.
    fold_parted (g.F.Fold.lifted fold) (g.F.Fold.none fold) g.F.Fold.merged g.met.F.Fold.associative g.met.F.Fold.commutative (g.met.F.Fold.unital fold) (g.met.F.Fold.unital_none fold)
