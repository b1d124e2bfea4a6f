use Rattle.std.proofs.Common.{◌≡◌, Some, map, slice_get, ap, arith, ◌∙◌}
use Rattle.reduce_groups.specs.Groups.{rows_in}
use Rattle.reduce_groups.proofs.RowLemmas.{here, later, without_row}
use Rattle.reduce_tree.specs.Folding.{result_of}
use Rattle.reduce_groups.proofs.trees.row_at.Goals as goal

pub returns-then-left-eq0-clause-row : goal.returns-then-left-eq0-clause-row
returns-then-left-eq0-clause-row g c =
    let F = g.F.Fold in
    let is = c.in-Some-result.ensures ∙ ap (λ x. result_of (F.lifted x.fold) (F.none x.fold) F.merged (map (λ e. e.1) x.entries)) c.get.ensures in
    let step : Some (c.in-Some.pair.now.0, c.in-Some-result.row.now) ≡ slice_get (rows_in F.lifted F.none F.merged c.loop-pair.pair-iterator) c.loop-pair.left =
    here F.lifted F.none F.merged c.in-Some.pair.now c.next.new.self c.loop-pair.pair-iterator c.in-Some.ensures.steps c.loop-pair.left c.in-Some-result.row.now c.if-left-eq0.true is in
    step ∙ c.loop-pair.invariant

pub loop-pair-preserved-in-Some-result : goal.loop-pair-preserved-in-Some-result
loop-pair-preserved-in-Some-result g c =
    let F = g.F.Fold in
    let is = c.in-Some-result.ensures ∙ ap (λ x. result_of (F.lifted x.fold) (F.none x.fold) F.merged (map (λ e. e.1) x.entries)) c.get.ensures in
    later F.lifted F.none F.merged c.in-Some.pair.now c.next.new.self c.loop-pair.pair-iterator c.in-Some.ensures.steps c.loop-pair.left _ c.in-Some-result.row.now (omega arith) is ∙ c.loop-pair.invariant

pub loop-pair-preserved : goal.loop-pair-preserved
loop-pair-preserved g c =
    let F = g.F.Fold in
    let is = c.in_default.ensures ∙ ap (λ x. result_of (F.lifted x.fold) (F.none x.fold) F.merged (map (λ e. e.1) x.entries)) c.get.ensures in
    without_row F.lifted F.none F.merged c.in-Some.pair.now c.next.new.self c.loop-pair.pair-iterator c.in-Some.ensures.steps c.loop-pair.left is ∙ c.loop-pair.invariant
