use Rattle.std.proofs.Common.{◌≡◌, ◌∙◌, ap, subst, sym}
use Rattle.spec_data.specs.Rows.{Row}
use Rattle.spec_store.specs.Store.{Store, put, with_row}
use Rattle.doc_store.specs.Bounds.{AreCleaned}
use Rattle.doc_store.specs.Maps.{Shows}
use Rattle.doc_store.proofs.MapLemmas.{gone_shown, shown, shown_cleaned, replaced_among, newer_than, grown}
use Rattle.doc_store.proofs.OrderLemmas.{cleaned_put, kept_in_order, same_store}
use Rattle.doc_store.proofs.TombstoneLemmas.{tombstones_with}
use Rattle.doc_store.proofs.store.Store.put_shared.Goals as goal
use Rattle.doc_store.proofs.store.Store.put_shared.Goals.{In_ok-collections}

pub put_among-requires-clause-replaced : goal.put_among-requires-clause-replaced
put_among-requires-clause-replaced c =
    replaced_among _ _ _ c.args.self c.args.row c.args.replaced.now (shown _ _ _ _ _ _ _ c.self.view_is c.self.invariant) c.requires.stands c.requires.replaced

pub put_among-requires-clause-newer : goal.put_among-requires-clause-newer
put_among-requires-clause-newer c = newer_than _ _ _ c.args.self c.args.row (shown _ _ _ _ _ _ _ c.self.view_is c.self.invariant) c.requires.stands

-- the maps that were made show the rows with the new one
shows : (c : In_ok-collections) → Shows c.in_ok-ids.ids c.in_ok-collections.collections c.behind-row.inside.etag (put c.args.row c.args.self.rows)
shows c =
    grown _ _ _ c.args.self c.args.row _ _ _ (shown _ _ _ _ _ _ _ c.self.view_is c.self.invariant) c.requires.stands c.requires.within c.in_ok-ids.ensures c.in_ok-collections.ensures
    (ap (λ (x : Row). x.etag) (c.behind-row.view_is ∙ c.get.ensures))

-- what was cleaned stays
cleaned_are : (c : In_ok-collections) → c.self.inside.cleaned ≡ c.args.self.cleaned
cleaned_are c = ap (λ (S : Store). S.cleaned) c.self.view_is

pub invariant_of-result : goal.invariant_of-result
invariant_of-result c = kept_in_order _ _ _ _ _ _ (record {
  shows = shows (goal.at.invariant_of-result c).In_ok-collections;
  gone_are =
      let s : Shows c.self.inside.by_id c.self.inside.by_collection c.self.inside.last c.args.self.rows = shown _ _ _ _ _ _ _ c.self.view_is c.self.invariant in
      tombstones_with c.args.self.rows c.args.row c.args.replaced.now c.self.inside.tombstones _ s.kept.store c.requires.stands.newer c.requires.replaced (gone_shown _ _ _ _ _ _ _ c.self.view_is c.self.invariant) c.in_ok-gone.ensures;
  cleaned_is = subst (λ n. AreCleaned n (put c.args.row c.args.self.rows)) (sym (cleaned_are (goal.at.invariant_of-result c).In_ok-collections))
      (cleaned_put c.args.self.cleaned c.args.row c.args.self.rows (shown_cleaned _ _ _ _ _ _ _ c.self.view_is c.self.invariant) c.requires.stands.newer);
})

pub returns : goal.returns
returns c = same_store _ _ _ _ (with_row c.args.self c.args.row) (shows (goal.at.returns c).In_ok-collections) (cleaned_are (goal.at.returns c).In_ok-collections)
