use Rattle.spec_index.proofs.Reordering.{fold_parted}
use Rattle.reduce_folds.proofs.laws.parts_give_the_whole.Goals as goal

pub returns : goal.returns
returns c = fold_parted
