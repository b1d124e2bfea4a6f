use Rattle.std.proofs.Common.{map, ap, ◌∙◌}
use Rattle.reduce_tree.specs.Folding.{result_of}
use Rattle.reduce_tree.proofs.Members.{total_is}
use Rattle.reduce_tree.proofs.tree.ReduceTree.result.Goals as goal

pub returns : goal.returns
returns g c =
    let f = c.self.inside.rows.fold in
    c.total.ensures ∙ total_is (g.F.Fold.lifted f) (g.F.Fold.none f) g.F.Fold.merged (g.met.F.Fold.unital f) c.self.inside.members.pairs c.self.invariant ∙ ap (λ t. result_of (g.F.Fold.lifted t.fold) (g.F.Fold.none t.fold) g.F.Fold.merged (map (λ e. e.1) t.entries)) c.self.view_is
