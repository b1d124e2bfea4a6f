use Rattle.std.proofs.Common.{List, ℕ, ◌∙◌, ap, subst}
use Rattle.std.specs.Option.{option_and_then}
use Rattle.index_tree.specs.Mapper.{mapper_of}
use Rattle.index_tree.specs.Meaning.{Fields, field_named}
use Rattle.index_definition.specs.DefinitionView.{definition_view}
use Rattle.reference_track.specs.Folded.{by_folded}
use Rattle.reference_track.specs.Sets.{AreInOrder}
use Rattle.index_version.specs.Entries.{all_entries, entry_at}
use Rattle.index_version.specs.Named.{NamedVersion}
use Rattle.index_version.specs.Reduced.{reduce_of}
use Rattle.index_version.proofs.EntryLemmas.{entries_in_order, value_found}
use Rattle.index_version.proofs.Walking.{ids_of}
use Rattle.index_version.proofs.version.IndexVersion.terms.Goals as goal

pub returns-clause-order : goal.returns-clause-order
returns-clause-order c =
    subst (λ (v : NamedVersion). AreInOrder (ids_of (all_entries v.version))) c.self.view_is
    (entries_in_order (mapper_of (definition_view c.self.inside.definition.value.body)) c.self.inside.table (by_folded c.self.inside.kept.given) c.self.inside.kept.referrers c.self.invariant.0)

pub returns-clause-values : goal.returns-clause-values
returns-clause-values c = λ plain field q.
    value_found c.self.inside.definition.value.body c.self.inside.table (by_folded c.self.inside.kept.given) c.self.inside.kept.referrers c.self.inside.terms c.self.invariant.0 c.self.invariant.2
    (ap (λ (v : NamedVersion). reduce_of v.version.definition) c.self.view_is ∙ plain) field q
    ∙ ap (λ (v : NamedVersion). option_and_then (λ (e : List ℕ × Fields). field_named field e.1) (entry_at v.version q)) c.self.view_is
