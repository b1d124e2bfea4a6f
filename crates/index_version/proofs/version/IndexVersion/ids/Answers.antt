use Rattle.std.proofs.Common.{◌∙◌, ap, sym}
use Rattle.std.specs.List.{filter_map}
use Rattle.index_version.specs.Entries.{all_entries}
use Rattle.index_version.specs.Kept.{entry_given}
use Rattle.index_version.specs.Named.{NamedVersion}
use Rattle.reference_track.proofs.FoldedMaps.{values-by_folded}
use Rattle.index_version.proofs.Keeping.{entries_kept}
use Rattle.index_version.proofs.Walking.{ids_of}
use Rattle.index_version.proofs.version.IndexVersion.ids.Goals as goal

pub returns : goal.returns
returns c =
    c.in_ok-ids.ensures.ids
    ∙ ap (λ gs. ids_of (filter_map entry_given gs)) (sym (values-by_folded c.self.inside.kept.given c.in_ok-ids.ensures.rising))
    ∙ ap ids_of (entries_kept _ _ _ c.self.inside.kept.referrers c.self.invariant.0)
    ∙ ap (λ (v : NamedVersion). ids_of (all_entries v.version)) c.self.view_is
