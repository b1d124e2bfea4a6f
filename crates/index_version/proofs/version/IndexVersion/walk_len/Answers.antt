use Rattle.std.proofs.Common.{◌≡◌, ◌≤◌, length, sym, ap, subst, ◌∙◌, arith}
use Rattle.std.specs.List.{filter_map}
use Rattle.std.specs.Map.{values_of}
use Rattle.reference_track.proofs.FoldedMaps.{values-by_folded}
use Rattle.index_version.specs.Entries.{all_entries}
use Rattle.index_version.specs.Kept.{entry_given}
use Rattle.index_version.specs.Named.{NamedVersion}
use Rattle.index_version.proofs.Keeping.{entries_kept}
use Rattle.index_version.proofs.Walking.{few_entries}
use Rattle.index_version.proofs.version.IndexVersion.walk_len.Goals as goal

pub returns : goal.returns
returns c =
    let given = c.self.inside.kept.given in
    let same : length (filter_map entry_given (values_of given)) ≡ length (all_entries c.args.self.now.version) =
    ap (λ gs. length (filter_map entry_given gs)) (sym (values-by_folded given c.len.ensures.rising))
    ∙ ap length (entries_kept _ _ _ c.self.inside.kept.referrers c.self.invariant.0)
    ∙ ap (λ (v : NamedVersion). length (all_entries v.version)) c.self.view_is in
    omega (arith, same, few_entries given, c.len.ensures.count)
