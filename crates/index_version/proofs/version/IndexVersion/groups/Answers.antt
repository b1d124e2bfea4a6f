use Rattle.std.proofs.Common.{length, ap, ◌∙◌}
use Rattle.index_definition.specs.DefinitionView.{definition_view}
use Rattle.reference_track.specs.Folded.{by_folded}
use Rattle.index_version.specs.Named.{NamedVersion}
use Rattle.index_version.specs.Reduced.{reduce_of, rows_of}
use Rattle.index_version.proofs.Reducing.{rows_grouped}
use Rattle.index_version.proofs.version.IndexVersion.groups.Goals as goal

pub returns-in-Some : goal.returns-in-Some
returns-in-Some c =
    let own = definition_view c.self.inside.definition.value.body in
    let grouped = rows_grouped own c.self.inside.table (by_folded c.self.inside.kept.given) c.self.inside.kept.referrers (reduce_of own) c.self.inside.groups c.in-Some.groups c.self.invariant.0 c.self.invariant.1 c.in-Some.is in
    c.len.ensures ∙ ap length grouped ∙ ap (λ (v : NamedVersion). length (rows_of v.version.definition v.version.table)) c.self.view_is
