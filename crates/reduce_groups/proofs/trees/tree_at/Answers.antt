use Rattle.std.proofs.Common.{ap, ◌∙◌}
use Rattle.reduce_groups.proofs.TreeLemmas.{sound_found}
use Rattle.reduce_groups.proofs.trees.tree_at.Goals as goal

pub returns-in_ok-clone-in-Some-clause-fold : goal.returns-in_ok-clone-in-Some-clause-fold
returns-in_ok-clone-in-Some-clause-fold g c =
    ap (λ t. t.fold) (c.in_ok-clone-in-Some.ensures.cases ∙ c.get-in-Some.ensures) ∙ sound_found _ c.args.fold.now c.args.trees.now c.in-Some.tree.now c.requires.sound c.in-Some.ensures.value
