use Rattle.std.proofs.Common.{sym, ap, subst, ◌∙◌}
use Rattle.std.proofs.lemmas.Result.{IfOk-weaker}
use Rattle.std.specs.FinMap.{values}
use Rattle.index_groups.specs.Groups.{Grouped}
use Rattle.index_groups.specs.KeyLaws.{keys_tie}
use Rattle.index_groups.specs.Together.{AreOfWords, cells_of}
use Rattle.index_groups.specs.Trees.{key_in}
use Rattle.index_groups.proofs.Rows.{entries_are}
use Rattle.index_groups.proofs.Parts.{trees_cells, words_of}
use Rattle.index_groups.proofs.groups.IndexGroups.groups.Goals as goal

pub returns-clause-groups : goal.returns-clause-groups
returns-clause-groups g c =
    let f = g.E.HasFields.fields in
    let query = c.self.inside.query in
    let is = c.self.invariant.1 in
    IfOk-weaker c.rows.result _ _ (λ rows e.
    e keys_tie (key_in query.key f) is.all is.grouped ∙ trees_cells query f c.self.inside.groups.fold is.folds is.all
    ∙ ap (cells_of query) (sym (entries_are query f c.self.inside.groups.fold c.self.inside.groups.trees is c.len-groups.ensures.rising))
    ∙ ap (λ (x : Grouped). cells_of x.query (values x.entries)) c.self.view_is) c.rows.ensures.grouped

pub returns-clause-words : goal.returns-clause-words
returns-clause-words g c =
    let f = g.E.HasFields.fields in
    let query = c.self.inside.query in
    let is = c.self.invariant.1 in
    subst AreOfWords (sym (entries_are query f c.self.inside.groups.fold c.self.inside.groups.trees is c.len-groups.ensures.rising) ∙ ap (λ (x : Grouped). values x.entries) c.self.view_is) (words_of f is.all is.words)
