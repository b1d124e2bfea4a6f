use Rattle.std.proofs.Common.{◌++◌, ◌∷◌, [], sym, ap, ◌∙◌}
use Rattle.index_groups.specs.Cells.{fold_by, fold_place}
use Rattle.index_groups.proofs.Plans.{added, kept}
use Rattle.index_groups.proofs.plan.need.Goals as goal

pub returns-in_ok-push : goal.returns-in_ok-push
returns-in_ok-push c =
    let place = c.fold_place.ensures ∙ ap (fold_place c.args.kind c.args.field.now) c.as_slice.ensures in
    c.in_ok-push.ensures.ok ∙ ap (λ field. c.args.folds.now ++ fold_by c.args.kind field ∷ []) c.in_ok-clone.ensures.cases
    ∙ added (fold_by c.args.kind c.args.field.now) c.args.folds.now (sym place ∙ c.if-fold_place-len.true ∙ c.len.ensures)

pub returns-else-fold_place-len : goal.returns-else-fold_place-len
returns-else-fold_place-len c =
    let place = c.fold_place.ensures ∙ ap (fold_place c.args.kind c.args.field.now) c.as_slice.ensures in
    kept (fold_by c.args.kind c.args.field.now) c.args.folds.now (λ e. c.if-fold_place-len.false (place ∙ e ∙ sym c.len.ensures))
