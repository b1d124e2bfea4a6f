use Rattle.std.proofs.Common.{map, ap, ◌∙◌}
use Rattle.reduce_tree.specs.Folding.{result_of}
use Rattle.reduce_groups.specs.Groups.{entries_at, entries_of_tree}
use Rattle.reduce_groups.proofs.TreeLemmas.{sound_found}
use Rattle.reduce_groups.proofs.groups.Groups.row.Goals as goal

pub returns-in-Some : goal.returns-in-Some
returns-in-Some g c =
    let ts = c.self.inside.trees in
    let t = c.in-Some.tree.now in
    let f = sound_found _ c.self.inside.fold ts t c.self.invariant c.in-Some.ensures.value in
    c.result.ensures ∙ ap (λ x. result_of (g.F.Fold.lifted x.fold) (g.F.Fold.none x.fold) g.F.Fold.merged (map (λ e. e.1) x.entries)) c.get-in-Some.ensures
    ∙ ap (λ x. result_of (g.F.Fold.lifted x) (g.F.Fold.none x) g.F.Fold.merged (map (λ e. e.1) t.entries)) f
    ∙ ap (λ x. result_of (g.F.Fold.lifted c.self.inside.fold) (g.F.Fold.none c.self.inside.fold) g.F.Fold.merged (map (λ e. e.1) (entries_of_tree x))) c.in-Some.ensures.value
    ∙ ap (λ x. result_of (g.F.Fold.lifted x.fold) (g.F.Fold.none x.fold) g.F.Fold.merged (map (λ e. e.1) (entries_at g.G.Ord.cmp c.args.group.now x.trees))) c.self.view_is

pub returns-in-None : goal.returns-in-None
returns-in-None g c =
    ap (λ x. result_of (g.F.Fold.lifted c.self.inside.fold) (g.F.Fold.none c.self.inside.fold) g.F.Fold.merged (map (λ e. e.1) (entries_of_tree x))) c.in-None.ensures.value
    ∙ ap (λ x. result_of (g.F.Fold.lifted x.fold) (g.F.Fold.none x.fold) g.F.Fold.merged (map (λ e. e.1) (entries_at g.G.Ord.cmp c.args.group.now x.trees))) c.self.view_is
