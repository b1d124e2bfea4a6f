use Rattle.std.proofs.Common.{ℕ, List, map, sym, ap, ◌∙◌}
use Rattle.index_tree.specs.declared.reduce_query.FoldMember.{FoldMember}
use Rattle.reduce_folds.specs.declared.field_fold.FieldFold.{FieldFold}
use Rattle.index_groups.specs.Cells.{field_of, folds_of, plan_of}
use Rattle.index_groups.proofs.Changing.{none_indexed}
use Rattle.index_groups.proofs.groups.IndexGroups.new.Goals as goal

pub invariant_of-result : goal.invariant_of-result
invariant_of-result g c =
    let query = c.args.query.now in
    let members = c.as_slice-members.result.now in
    let copied = c.in_ok-of.ensures ∙ c.in_ok-copy.ensures in (
      c.in_ok-of-2.ensures ∙ c.in_ok-plan.ensures
          ∙ ap (λ (names : List (List ℕ)). map (field_of names c.as_slice.result.now) members) c.as_slice-names.ensures
          ∙ ap (λ (folds : List FieldFold). map (field_of query.key folds) members) (c.as_slice.ensures ∙ c.in_ok-fields.ensures)
          ∙ ap (λ (ms : List FoldMember). map (field_of query.key (folds_of ms)) ms) c.as_slice-members.ensures
          ∙ ap plan_of (sym copied),
      none_indexed c.in_ok-of.field-0 g.E.HasFields.fields c.in_ok-new.field-0.fold c.in_ok-new.field-0.trees
          (ap (λ x. x.fold.fields) c.in_ok-new.ensures ∙ ap (λ x. x.fields) c.in_ok-fold.ensures ∙ c.in_ok-fields.ensures ∙ ap folds_of c.as_slice-members.ensures ∙ sym (ap (λ x. folds_of x.members) copied))
          (ap (λ x. x.trees) c.in_ok-new.ensures),
    )
