use Rattle.std.proofs.Common.{List, slice_get, ap, ◌∙◌}
use Rattle.std.proofs.lemmas.Result.{IfOk-weaker}
use Rattle.index_tree.specs.Meaning.{Fields}
use Rattle.index_definition.specs.DefinitionView.{definition_view}
use Rattle.reference_track.specs.Folded.{by_folded}
use Rattle.index_version.specs.Named.{NamedVersion}
use Rattle.index_version.specs.Reduced.{reduce_of, rows_of}
use Rattle.index_version.proofs.Reducing.{rows_grouped}
use Rattle.index_version.proofs.version.IndexVersion.row.Goals as goal

pub returns-in-Some : goal.returns-in-Some
returns-in-Some c =
    let own = definition_view c.self.inside.definition.value.body in
    let grouped = rows_grouped own c.self.inside.table (by_folded c.self.inside.kept.given) c.self.inside.kept.referrers (reduce_of own) c.self.inside.groups c.in-Some.groups c.self.invariant.0 c.self.invariant.1 c.in-Some.is in
    IfOk-weaker c.row.result _ _ (λ row e. e ∙ ap (λ (rows : List Fields). slice_get rows c.args.place) grouped ∙ ap (λ (v : NamedVersion). slice_get (rows_of v.version.definition v.version.table) c.args.place) c.self.view_is) c.row.ensures
