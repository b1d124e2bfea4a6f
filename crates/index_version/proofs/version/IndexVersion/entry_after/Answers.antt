use Rattle.std.proofs.Common.{find, option_map, sym, ap, subst, ◌∙◌}
use Rattle.std.specs.List.{filter_map}
use Rattle.spec_data.specs.Folding.{folded}
use Rattle.reference_track.specs.Folded.{by_folded, folded_entries}
use Rattle.reference_track.proofs.FoldedMaps.{entries-rising, folded-rising, values-by_folded}
use Rattle.index_version.specs.Entries.{all_entries, is_past}
use Rattle.index_version.specs.Kept.{entry_given}
use Rattle.index_version.specs.Named.{NamedVersion}
use Rattle.index_version.proofs.EntryLemmas.{AreOwn, first_past, own}
use Rattle.index_version.proofs.Keeping.{entries_kept}
use Rattle.index_version.proofs.version.IndexVersion.entry_after.Goals as goal

pub returns-clause-entry : goal.returns-clause-entry
returns-clause-entry g c =
    let given = c.self.inside.kept.given in
    let q = option_map (λ i. folded i.now) c.args.id in
    let up = c.entry_after.ensures.rising in
    let all_own = subst AreOwn (entries-rising (folded_entries given) (folded-rising given up)) (own _ _ (by_folded given) c.self.inside.kept.referrers c.self.invariant.0) in
    c.entry_after.ensures.entry
    ∙ first_past q given all_own
    ∙ ap (find (λ e. is_past q e.0)) (ap (filter_map entry_given) (sym (values-by_folded given up)) ∙ entries_kept _ _ _ c.self.inside.kept.referrers c.self.invariant.0)
    ∙ ap (λ (v : NamedVersion). find (λ e. is_past q e.0) (all_entries v.version)) c.self.view_is
