use Rattle.std.proofs.Common.{ap, subst, ◌∙◌}
use Rattle.std.proofs.lemmas.Result.{IfOk-weaker}
use Rattle.paged_map.specs.Pairs.{IsRising}
use Rattle.reduce_groups.specs.Groups.{AreSound, rows_in}
use Rattle.reduce_groups.proofs.RowLemmas.{rows_are_of}
use Rattle.reduce_groups.proofs.groups.Groups.rows.Goals as goal

pub returns-clause-grouped : goal.returns-clause-grouped
returns-clause-grouped g c =
    let F = g.F.Fold in
    let now = c.args.self.now in
    let sound = subst (λ t. AreSound t.fold t.trees) c.self.view_is c.self.invariant in
    let rising = subst (λ t. IsRising g.G.Ord.cmp t.trees) c.self.view_is c.rows_in.ensures.rising in
    IfOk-weaker c.rows_in.result _ _ (λ rows e ties key es grouped.
    e ∙ ap (λ t. rows_in F.lifted F.none F.merged t.trees) c.self.view_is ∙ rows_are_of g.G.Ord.cmp F.lifted F.none F.merged now.fold ties key g.met.G.Ord.total es now.trees rising sound grouped) c.rows_in.ensures.rows
