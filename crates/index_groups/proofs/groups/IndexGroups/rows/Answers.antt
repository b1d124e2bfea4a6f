use Rattle.std.proofs.Common.{List, [], map, ap, ◌∙◌}
use Rattle.std.specs.FinMap.{values}
use Rattle.reduce_folds.specs.Cells.{Cell}
use Rattle.spec_index.specs.Rows.{Key, reduced}
use Rattle.index_groups.specs.declared.plan.RowField.{RowField}
use Rattle.index_groups.specs.Cells.{plan_of, row_from}
use Rattle.index_groups.specs.Groups.{Grouped}
use Rattle.index_groups.specs.KeyLaws.{keys_tie}
use Rattle.index_groups.specs.Trees.{key_in}
use Rattle.index_groups.proofs.Rows.{rows_are}
use Rattle.index_groups.proofs.groups.IndexGroups.rows.Goals as goal

pub returns : goal.returns
returns g c =
    let f = g.E.HasFields.fields in
    let query = c.self.inside.query in
    let is = c.self.invariant.1 in
    c.in_ok-rows_of.ensures
    ∙ ap (λ (p : List RowField). map (λ (r : Key × List Cell). row_from r.0 r.1 [] p) c.in_ok-groups.groups.items) (c.as_slice-plan.ensures ∙ c.get.ensures ∙ c.self.invariant.0)
    ∙ ap (map (λ (r : Key × List Cell). row_from r.0 r.1 [] (plan_of query))) (c.in_ok-groups.ensures.grouped keys_tie (key_in query.key f) is.all is.grouped)
    ∙ rows_are query f c.self.inside.groups.fold c.self.inside.groups.trees is c.len-groups.ensures.rising c.self.inside.groups.fold c.len-groups.ensures.sound
    ∙ ap (λ (x : Grouped). reduced x.query (values x.entries)) c.self.view_is
