use Rattle.std.proofs.Common.{option_map, sym, ap, ◌∙◌}
use Rattle.index_definition.specs.DefinitionView.{definition_view}
use Rattle.reference_track.specs.Folded.{by_folded}
use Rattle.index_version.specs.Named.{NamedVersion}
use Rattle.index_version.specs.Reduced.{reduce_of}
use Rattle.index_version.specs.Together.{in_groups, in_version}
use Rattle.index_version.proofs.Several.{grouped_by}
use Rattle.index_version.proofs.version.IndexVersion.given_groups.Goals as goal

pub returns-in-Some : goal.returns-in-Some
returns-in-Some c =
    let own = definition_view c.self.inside.definition.value.body in
    sym (ap (option_map in_groups) c.in-Some.is)
    ∙ grouped_by own c.self.inside.table (by_folded c.self.inside.kept.given) c.self.inside.kept.referrers (reduce_of own) c.self.inside.groups c.self.invariant.0 c.self.invariant.1
    ∙ ap (λ (v : NamedVersion). in_version v.version) c.self.view_is

pub returns-in-None : goal.returns-in-None
returns-in-None c =
    let own = definition_view c.self.inside.definition.value.body in
    sym (ap (option_map in_groups) c.in-None.is)
    ∙ grouped_by own c.self.inside.table (by_folded c.self.inside.kept.given) c.self.inside.kept.referrers (reduce_of own) c.self.inside.groups c.self.invariant.0 c.self.invariant.1
    ∙ ap (λ (v : NamedVersion). in_version v.version) c.self.view_is
