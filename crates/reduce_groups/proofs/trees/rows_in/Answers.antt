use Rattle.std.proofs.Common.{◌++◌, map, ap, ◌∙◌}
use Rattle.reduce_groups.specs.Groups.{rows_in}
use Rattle.reduce_groups.proofs.RowLemmas.{one_row_more, no_row_more}
use Rattle.reduce_tree.specs.Folding.{result_of}
use Rattle.reduce_groups.proofs.trees.rows_in.Goals as goal

pub loop-pair-preserved-in_ok-push : goal.loop-pair-preserved-in_ok-push
loop-pair-preserved-in_ok-push g c =
    let F = g.F.Fold in
    let t = c.in-Some.pair.now in
    let key = g.met.G.Exact.exact t.0 c.in_ok-clone.field-0 c.in_ok-clone.ensures.cases in
    let row = g.met.F.Row.Exact.exact c.in-Some-result.row.now c.in_ok-clone-2.field-0 c.in_ok-clone-2.ensures.cases in
    let is = c.in-Some-result.ensures ∙ ap (λ x. result_of (F.lifted x.fold) (F.none x.fold) F.merged (map (λ e. e.1) x.entries)) c.get.ensures in
    ap (λ l. l ++ rows_in F.lifted F.none F.merged c.next.new.self) c.in_ok-push.ensures.items
    ∙ one_row_more F.lifted F.none F.merged c.loop-pair.rows.items t c.next.new.self c.loop-pair.pair-iterator c.in-Some.ensures.steps c.in_ok-clone.field-0 c.in_ok-clone-2.field-0 c.in-Some-result.row.now key row is
    ∙ c.loop-pair.invariant

pub loop-pair-preserved : goal.loop-pair-preserved
loop-pair-preserved g c =
    let F = g.F.Fold in
    let is = c.in_default.ensures ∙ ap (λ x. result_of (F.lifted x.fold) (F.none x.fold) F.merged (map (λ e. e.1) x.entries)) c.get.ensures in
    no_row_more F.lifted F.none F.merged c.loop-pair.rows.items c.in-Some.pair.now c.next.new.self c.loop-pair.pair-iterator c.in-Some.ensures.steps is ∙ c.loop-pair.invariant
