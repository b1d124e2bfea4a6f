use Rattle.std.proofs.Common.{List, [], map, ap, ◌∙◌}
use Rattle.std.proofs.lemmas.Result.{IfOk-weaker}
use Rattle.reduce_folds.specs.Cells.{Cell}
use Rattle.spec_index.specs.Rows.{Key}
use Rattle.index_groups.specs.declared.plan.RowField.{RowField}
use Rattle.index_groups.specs.Cells.{plan_of, row_from}
use Rattle.index_groups.proofs.Parts.{first_by, none_seen, rows_from_cells}
use Rattle.index_groups.proofs.together.rows_together.Goals as goal

pub returns-in_default : goal.returns-in_default
returns-in_default g c = λ query alike few. c.new.ensures ∙ none_seen query c.args.parts.now c.in_default.ensures.value

pub returns : goal.returns
returns g c =
    IfOk-weaker c.rows_of.result _ _ (λ rows e query alike few.
    e
    ∙ ap (λ (p : List RowField). map (λ (r : Key × List Cell). row_from r.0 r.1 [] p) c.in_ok-groups.groups.items) (c.plan.ensures ∙ ap plan_of (first_by query c.args.parts.now c.in-Some.first.now c.in-Some.ensures.value alike))
    ∙ ap (map (λ (r : Key × List Cell). row_from r.0 r.1 [] (plan_of query))) (c.in_ok-groups.ensures.groups query alike)
    ∙ rows_from_cells query _ c.in_ok-groups.ensures.words few) c.rows_of.ensures
