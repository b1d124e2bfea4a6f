use Rattle.std.proofs.Common.{◌∙◌, ap, sym}
use Rattle.std.specs.List.{count_by}
use Rattle.spec_index.specs.Mapping.{failures, has_failed}
use Rattle.index_tree.specs.Mapper.{mapper_of}
use Rattle.index_version.specs.Kept.{Given}
use Rattle.index_version.specs.Named.{NamedVersion}
use Rattle.reference_track.proofs.FoldedMaps.{values-by_folded}
use Rattle.index_version.proofs.Keeping.{failures_kept}
use Rattle.index_version.proofs.version.IndexVersion.errors.Goals as goal

pub returns : goal.returns
returns c =
    c.errors.ensures.count
    ∙ ap (count_by (λ (g : Given). has_failed g.mapped.outcome)) (sym (values-by_folded c.self.inside.kept.given c.errors.ensures.rising))
    ∙ failures_kept _ _ _ c.self.inside.kept.referrers c.self.invariant.0
    ∙ ap (λ (v : NamedVersion). failures (mapper_of v.version.definition) v.version.table) c.self.view_is
