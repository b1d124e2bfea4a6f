use Rattle.std.proofs.Common.{◌∙◌, ap, sym}
use Rattle.std.specs.Option.{option_and_then}
use Rattle.spec_data.specs.Folding.{folded}
use Rattle.index_tree.specs.Mapper.{mapper_of}
use Rattle.index_definition.specs.DefinitionView.{definition_view}
use Rattle.reference_track.specs.Folded.{by_folded}
use Rattle.reference_track.proofs.FoldedMaps.{get-by_folded}
use Rattle.index_version.specs.Entries.{entry_at}
use Rattle.index_version.specs.Kept.{entry_given}
use Rattle.index_version.specs.Named.{NamedVersion}
use Rattle.index_version.proofs.EntryLemmas.{entry_found}
use Rattle.index_version.proofs.version.IndexVersion.entry_of.Goals as goal

pub returns-clause-entry : goal.returns-clause-entry
returns-clause-entry g c =
    c.entry_of.ensures
    ∙ ap (option_and_then entry_given) (sym (get-by_folded c.args.id.now c.self.inside.kept.given))
    ∙ sym (entry_found (mapper_of (definition_view c.self.inside.definition.value.body)) c.self.inside.table (by_folded c.self.inside.kept.given) c.self.inside.kept.referrers c.self.invariant.0 (folded c.args.id.now))
    ∙ ap (λ (v : NamedVersion). entry_at v.version (folded c.args.id.now)) c.self.view_is
