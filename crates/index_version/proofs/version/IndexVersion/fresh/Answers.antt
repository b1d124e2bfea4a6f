use Rattle.std.proofs.Common.{[], cond, option_map, ap, ◌∙◌}
use Rattle.index_tree.specs.Mapper.{mapper_of, scope_of}
use Rattle.index_definition.specs.declared.definition.Definition.{Definition}
use Rattle.index_definition.specs.DefinitionView.{definition_view}
use Rattle.index_definition.specs.Reading.{fields}
use Rattle.term_index.specs.Columns.{no_values}
use Rattle.index_version.specs.Reduced.{no_entries, reduce_of}
use Rattle.index_version.proofs.Keeping.{nothing_kept}
use Rattle.index_version.proofs.Reducing.{nothing_grouped}
use Rattle.index_version.proofs.Terming.{nothing_termed}
use Rattle.index_version.proofs.version.IndexVersion.fresh.Goals as goal

pub invariant_of-result : goal.invariant_of-result
invariant_of-result c = (
  nothing_kept (mapper_of (definition_view c.args.definition.value.body)) _ _ _ c.in_ok-new.ensures c.in_ok-new-2.ensures.results c.in_ok-new-2.ensures.pairs,
  nothing_grouped (reduce_of (definition_view c.args.definition.value.body)) _ c.in_ok-groups.groups c.in_ok-new-2.ensures.results
      (c.in_ok-groups.ensures ∙ ap (λ (d : Definition). option_map no_entries (reduce_of (definition_view d.body))) c.deref.ensures),
  nothing_termed c.args.definition.value.body _ c.in_ok-groups.groups _ c.in_ok-terms.terms c.in_ok-new-2.ensures.results
      (c.in_ok-groups.ensures ∙ ap (λ (d : Definition). option_map no_entries (reduce_of (definition_view d.body))) c.deref.ensures) c.is_some.ensures
      (c.in_ok-terms.ensures ∙ ap (λ (d : Definition). no_values (cond c.is_some.result [] (fields d.body))) c.deref-2.ensures),
  c.in_ok-scope.ensures ∙ ap (λ (d : Definition). scope_of (mapper_of (definition_view d.body))) c.deref-3.ensures,
)
