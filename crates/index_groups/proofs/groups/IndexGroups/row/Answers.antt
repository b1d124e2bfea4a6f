use Rattle.std.proofs.Common.{Option, Some, None, List, [], slice_get, ap, ◌∙◌}
use Rattle.std.specs.FinMap.{values}
use Rattle.reduce_folds.specs.Cells.{Cell}
use Rattle.spec_index.specs.Rows.{Key, reduced}
use Rattle.index_groups.specs.declared.plan.RowField.{RowField}
use Rattle.index_groups.specs.Cells.{plan_of, row_from}
use Rattle.index_groups.specs.Groups.{Grouped}
use Rattle.index_groups.specs.KeyLaws.{keys_tie}
use Rattle.index_groups.specs.Trees.{key_in}
use Rattle.index_groups.proofs.Rows.{row_is_at}
use Rattle.index_groups.proofs.groups.IndexGroups.row.Goals as goal

pub returns-in_ok-row-in-Some : goal.returns-in_ok-row-in-Some
returns-in_ok-row-in-Some g c =
    let f = g.E.HasFields.fields in
    let is = c.self.invariant.1 in
    let key = c.in-Some.key.now in
    let cells = c.in-Some.cells.now in
    ap Some (c.in_ok-row-in-Some.ensures ∙ ap (λ (p : List RowField). row_from key c.as_slice.result.now [] p) (c.as_slice-plan.ensures ∙ c.get.ensures ∙ c.self.invariant.0) ∙ ap (λ (cs : List Cell). row_from key cs [] (plan_of c.self.inside.query)) c.as_slice.ensures)
    ∙ row_is_at c.self.inside.query f c.self.inside.groups.fold c.self.inside.groups.trees is c.len-groups.ensures.rising c.self.inside.groups.fold c.len-groups.ensures.sound c.args.place (Some (key, cells))
    (c.in-Some.ensures.grouped keys_tie (key_in c.self.inside.query.key f) is.all is.grouped)
    ∙ ap (λ (x : Grouped). slice_get (reduced x.query (values x.entries)) c.args.place) c.self.view_is

pub returns-in-None : goal.returns-in-None
returns-in-None g c =
    let f = g.E.HasFields.fields in
    let is = c.self.invariant.1 in
    let none : Option (Key × List Cell) = None in
    row_is_at c.self.inside.query f c.self.inside.groups.fold c.self.inside.groups.trees is c.len-groups.ensures.rising c.self.inside.groups.fold c.len-groups.ensures.sound c.args.place none
    (c.in-None.ensures.grouped keys_tie (key_in c.self.inside.query.key f) is.all is.grouped)
    ∙ ap (λ (x : Grouped). slice_get (reduced x.query (values x.entries)) c.args.place) c.self.view_is
