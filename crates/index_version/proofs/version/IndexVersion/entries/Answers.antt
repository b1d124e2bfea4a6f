use Rattle.std.proofs.Common.{◌∙◌, ap, sym, length}
use Rattle.std.specs.List.{filter_map}
use Rattle.index_tree.specs.Mapper.{mapper_of}
use Rattle.spec_index.specs.Mapping.{scratch}
use Rattle.index_version.specs.Kept.{entry_given}
use Rattle.index_version.specs.Named.{NamedVersion}
use Rattle.reference_track.proofs.FoldedMaps.{values-by_folded}
use Rattle.index_version.proofs.Keeping.{entries_kept}
use Rattle.index_version.proofs.version.IndexVersion.entries.Goals as goal

pub returns : goal.returns
returns c =
    c.entries.ensures.count
    ∙ ap (λ gs. length (filter_map entry_given gs)) (sym (values-by_folded c.self.inside.kept.given c.entries.ensures.rising))
    ∙ ap length (entries_kept _ _ _ c.self.inside.kept.referrers c.self.invariant.0)
    ∙ ap (λ (v : NamedVersion). length (scratch (mapper_of v.version.definition) v.version.table)) c.self.view_is
