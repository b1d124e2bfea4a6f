use Rattle.std.proofs.Common.{slice_get, ap, subst, ◌∙◌}
use Rattle.paged_map.specs.Pairs.{IsRising}
use Rattle.reduce_groups.specs.Groups.{AreSound, rows_in}
use Rattle.reduce_groups.proofs.RowLemmas.{rows_are_of}
use Rattle.reduce_groups.proofs.groups.Groups.nth.Goals as goal

pub returns-clause-grouped : goal.returns-clause-grouped
returns-clause-grouped g c =
    let F = g.F.Fold in
    let now = c.args.self.now in
    let sound = subst (λ t. AreSound t.fold t.trees) c.self.view_is c.self.invariant in
    let rising = subst (λ t. IsRising g.G.Ord.cmp t.trees) c.self.view_is c.row_at.ensures.rising in
    λ ties key es grouped.
    c.row_at.ensures.row ∙ ap (λ t. slice_get (rows_in F.lifted F.none F.merged t.trees) c.args.place) c.self.view_is
    ∙ ap (λ rows. slice_get rows c.args.place) (rows_are_of g.G.Ord.cmp F.lifted F.none F.merged now.fold ties key g.met.G.Ord.total es now.trees rising sound grouped)
