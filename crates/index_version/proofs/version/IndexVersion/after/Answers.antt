use Rattle.std.proofs.Common.{◌∙◌, ap, arith, sym}
use Rattle.index_tree.specs.Mapper.{mapper_of, scope_of}
use Rattle.index_definition.specs.declared.definition.Definition.{Definition}
use Rattle.index_definition.specs.DefinitionView.{definition_view}
use Rattle.spec_index.specs.World.{Version}
use Rattle.reference_track.specs.Folded.{by_folded}
use Rattle.index_version.specs.Named.{NamedVersion}
use Rattle.index_version.proofs.Reducing.{merges_taken, others_taken, plain_taken, reduced_taken}
use Rattle.index_version.proofs.Terming.{reduce_terms, still_termed}
use Rattle.index_version.proofs.Taking.{kept_taken, maps_taken}
use Rattle.index_version.proofs.version.IndexVersion.after.Goals as goal

pub regrouped-requires-clause-others : goal.regrouped-requires-clause-others
regrouped-requires-clause-others g c = others_taken (mapper_of (definition_view c.deref.result.now.body)) _ _ _ _ c.in_ok-kept.ensures.results

pub returns-in_err-kept-clause-maps : goal.returns-in_err-kept-clause-maps
returns-in_err-kept-clause-maps g c =
    maps_taken _ c.args.self.now.version _ c.self.inside.kept.referrers c.args.taken.now c.in_ok-ids.ids c.as_slice-ids.result.now _ _ _ _ (ap (λ (v : NamedVersion). v.version) c.self.view_is) c.self.invariant.0
    c.in_ok-ids.ensures.ids c.in_ok-ids.ensures.once c.as_slice-ids.ensures c.in_ok-table.ensures (ap (λ (d : Definition). definition_view d.body) c.deref.ensures) c.renewed.ensures.maps

pub returns-in_err-groups-clause-maps : goal.returns-in_err-groups-clause-maps
returns-in_err-groups-clause-maps g c =
    let most =
    maps_taken _ c.args.self.now.version _ c.self.inside.kept.referrers c.args.taken.now c.in_ok-ids.ids c.as_slice-ids.result.now _ _ _ _ (ap (λ (v : NamedVersion). v.version) c.self.view_is) c.self.invariant.0
    c.in_ok-ids.ensures.ids c.in_ok-ids.ensures.once c.as_slice-ids.ensures c.in_ok-table.ensures (ap (λ (d : Definition). definition_view d.body) c.deref.ensures) c.renewed.ensures.maps in
    omega (arith, most, c.regrouped.ensures.maps)

pub returns-in_err-share-clause-maps : goal.returns-in_err-share-clause-maps
returns-in_err-share-clause-maps g c =
    let most =
    maps_taken _ c.args.self.now.version _ c.self.inside.kept.referrers c.args.taken.now c.in_ok-ids.ids c.as_slice-ids.result.now _ _ _ _ (ap (λ (v : NamedVersion). v.version) c.self.view_is) c.self.invariant.0
    c.in_ok-ids.ensures.ids c.in_ok-ids.ensures.once c.as_slice-ids.ensures c.in_ok-table.ensures (ap (λ (d : Definition). definition_view d.body) c.deref.ensures) c.renewed.ensures.maps in
    omega (arith, most, c.in_ok-groups.ensures.maps)

pub returns-in_err-terms-clause-maps : goal.returns-in_err-terms-clause-maps
returns-in_err-terms-clause-maps g c =
    let most =
    maps_taken _ c.args.self.now.version _ c.self.inside.kept.referrers c.args.taken.now c.in_ok-ids.ids c.as_slice-ids.result.now _ _ _ _ (ap (λ (v : NamedVersion). v.version) c.self.view_is) c.self.invariant.0
    c.in_ok-ids.ensures.ids c.in_ok-ids.ensures.once c.as_slice-ids.ensures c.in_ok-table.ensures (ap (λ (d : Definition). definition_view d.body) c.deref.ensures) c.renewed.ensures.maps in
    omega (arith, most, c.in_ok-groups.ensures.maps)

pub returns-clause-maps : goal.returns-clause-maps
returns-clause-maps g c =
    let most =
    maps_taken _ c.args.self.now.version _ c.self.inside.kept.referrers c.args.taken.now c.in_ok-ids.ids c.as_slice-ids.result.now _ _ _ _ (ap (λ (v : NamedVersion). v.version) c.self.view_is) c.self.invariant.0
    c.in_ok-ids.ensures.ids c.in_ok-ids.ensures.once c.as_slice-ids.ensures c.in_ok-table.ensures (ap (λ (d : Definition). definition_view d.body) c.deref.ensures) c.renewed.ensures.maps in
    omega (arith, most, c.in_ok-groups.ensures.maps)

pub returns-in_err-groups-clause-plain : goal.returns-in_err-groups-clause-plain
returns-in_err-groups-clause-plain g c = plain_taken (definition_view c.self.inside.definition.value.body) c.args.self.now.version _ c.self.inside.groups _ _ _ c.self.invariant.1 (ap (λ (v : NamedVersion). v.version.definition) c.self.view_is) c.regrouped.ensures.plain c.renewed.ensures.merges

pub returns-in_err-share-clause-plain : goal.returns-in_err-share-clause-plain
returns-in_err-share-clause-plain g c = plain_taken (definition_view c.self.inside.definition.value.body) c.args.self.now.version _ c.self.inside.groups _ _ _ c.self.invariant.1 (ap (λ (v : NamedVersion). v.version.definition) c.self.view_is) c.in_ok-groups.ensures.plain c.renewed.ensures.merges

pub returns-in_err-terms-clause-plain : goal.returns-in_err-terms-clause-plain
returns-in_err-terms-clause-plain g c = plain_taken (definition_view c.self.inside.definition.value.body) c.args.self.now.version _ c.self.inside.groups _ _ _ c.self.invariant.1 (ap (λ (v : NamedVersion). v.version.definition) c.self.view_is) c.in_ok-groups.ensures.plain c.renewed.ensures.merges

pub returns-clause-plain : goal.returns-clause-plain
returns-clause-plain g c = plain_taken (definition_view c.self.inside.definition.value.body) c.args.self.now.version _ c.self.inside.groups _ _ _ c.self.invariant.1 (ap (λ (v : NamedVersion). v.version.definition) c.self.view_is) c.in_ok-groups.ensures.plain c.renewed.ensures.merges

pub returns-clause-merges : goal.returns-clause-merges
returns-clause-merges g c =
    let own : Version = record { definition = definition_view c.self.inside.definition.value.body; etag = c.self.inside.etag; table = c.self.inside.table; cleaned = c.self.inside.cleaned } in
    let new : Version = record { definition = definition_view c.in_ok-share.field-0.value.body; etag = c.args.etag; table = c.in_ok-table.table; cleaned = c.args.cleaned } in
    let shared = ap (λ (d : Definition). definition_view d.body) c.in_ok-share.ensures in
    merges_taken own c.args.self.now.version new c.self.inside.kept.given c.in_ok-kept.kept.given c.self.inside.kept.referrers c.in_ok-kept.kept.referrers c.args.taken.now c.in_ok-ids.ids c.as_slice-ids.result.now c.self.inside.groups
    c.in_ok-groups.groups c.args.steps.now c.renewed.new.steps c.regrouped.new.steps (ap (λ (v : NamedVersion). v.version) c.self.view_is) c.self.invariant.0 c.in_ok-ids.ensures.ids c.in_ok-ids.ensures.once c.as_slice-ids.ensures shared
    c.in_ok-table.ensures
    (kept_taken _ _ _ _ c.self.inside.kept.referrers c.in_ok-kept.kept.referrers c.args.taken.now c.in_ok-ids.ids c.as_slice-ids.result.now _ _ _ c.self.invariant.0 c.in_ok-ids.ensures.ids c.as_slice-ids.ensures c.in_ok-table.ensures
    (ap (λ (d : Definition). definition_view d.body) c.deref.ensures) shared c.in_ok-kept.ensures.results c.in_ok-kept.ensures.pairs)
    c.self.invariant.1
    (reduced_taken (definition_view c.self.inside.definition.value.body) _ c.self.inside.kept.given c.in_ok-kept.kept.given c.self.inside.groups c.in_ok-groups.groups c.self.invariant.1 shared c.in_ok-groups.ensures.queries
    c.in_ok-groups.ensures.entries)
    c.renewed.ensures.merges c.in_ok-groups.ensures.merges

pub invariant_of-result : goal.invariant_of-result
invariant_of-result g c = (
  kept_taken _ _ _ _ c.self.inside.kept.referrers c.in_ok-kept.kept.referrers c.args.taken.now c.in_ok-ids.ids c.as_slice-ids.result.now _ _ _ c.self.invariant.0
      c.in_ok-ids.ensures.ids c.as_slice-ids.ensures c.in_ok-table.ensures
      (ap (λ (d : Definition). definition_view d.body) c.deref.ensures)
      (ap (λ (d : Definition). definition_view d.body) c.in_ok-share.ensures)
      c.in_ok-kept.ensures.results c.in_ok-kept.ensures.pairs,
  reduced_taken (definition_view c.self.inside.definition.value.body) _ c.self.inside.kept.given c.in_ok-kept.kept.given c.self.inside.groups c.in_ok-groups.groups c.self.invariant.1
      (ap (λ (d : Definition). definition_view d.body) c.in_ok-share.ensures) c.in_ok-groups.ensures.queries c.in_ok-groups.ensures.entries,
  still_termed c.self.inside.definition.value.body _ (by_folded c.self.inside.kept.given) (by_folded c.in_ok-kept.kept.given) c.self.inside.terms c.in_ok-terms.terms c.self.invariant.2 (ap (λ (d : Definition). d.body) c.in_ok-share.ensures)
      c.in_ok-terms.ensures.names c.in_ok-terms.ensures.terms,
  c.in_ok-scope.ensures.cases ∙ c.self.invariant.3 ∙ sym (ap (λ (d : Definition). scope_of (mapper_of (definition_view d.body))) c.in_ok-share.ensures),
)

pub retermed-requires-clause-others : goal.retermed-requires-clause-others
retermed-requires-clause-others g c = others_taken (mapper_of (definition_view c.deref.result.now.body)) _ _ _ _ c.in_ok-kept.ensures.results

pub retermed-requires-clause-reduce : goal.retermed-requires-clause-reduce
retermed-requires-clause-reduce g c = reduce_terms c.self.inside.definition.value.body _ c.self.inside.groups c.self.inside.terms c.is_some.result c.self.invariant.1 c.self.invariant.2 c.is_some.ensures
