use Rattle.std.proofs.Common.{◌≡◌, List, true, refl, ◌∙◌, ap, sym, subst}
use Rattle.spec_data.specs.Folding.{folded}
use Rattle.spec_data.specs.Rows.{Row}
use Rattle.spec_store.specs.Store.{AreApart, row_at, store_of}
use Rattle.doc_store.specs.Bounds.{AreRows}
use Rattle.paged_map.specs.Pairs.{IsRising}
use Rattle.doc_store.specs.Maps.{Shows, id_cmp}
use Rattle.doc_store.proofs.MapLemmas.{all_show}
use Rattle.doc_store.proofs.OrderLemmas.{kept_in_order, same_store, uncleaned}
use Rattle.doc_store.proofs.store.Store.of.Goals as goal
use Rattle.doc_store.proofs.store.Store.of.Goals.{In_ok-ids, In_ok-from_sorted, After-last_etag}

-- the rows that are shared are these
rows_are : (c : In_ok-ids) → c.deref.result.now ≡ c.args.rows.now
rows_are c = c.deref.ensures.value ∙ c.in_ok-shared.ensures

pub returns-then-not-is_rising-clause-apart : goal.returns-then-not-is_rising-clause-apart
returns-then-not-is_rising-clause-apart c = (
  λ two. absurd cc,
  λ apart.
      let shared = subst AreApart (sym (rows_are (goal.at.returns-then-not-is_rising-clause-apart c).In_ok-ids)) apart in
      let rises : c.is_rising.result ≡ true = c.is_rising.ensures.1 (subst (IsRising id_cmp) (sym c.deref-2.ensures.value) (c.in_ok-ids.ensures.apart.1 shared)) in
      sym c.if-not-is_rising.true ∙ rises,
)

are_apart : (c : In_ok-from_sorted) → AreApart c.args.rows.now
are_apart c =
    subst AreApart (c.deref.ensures.value ∙ c.in_ok-shared.ensures) (c.in_ok-ids.ensures.apart.0 (subst (IsRising id_cmp) c.deref-2.ensures.value (c.is_rising.ensures.0 c.if-not-is_rising.false)))

pub by_collection-requires : goal.by_collection-requires
by_collection-requires c =
    subst (λ (rows : List Row). AreRows rows) (sym c.in_ok-shared.ensures)
    (record { rising = c.requires.rising; apart = are_apart (goal.at.by_collection-requires c).In_ok-from_sorted })

rises : (c : In_ok-from_sorted) → IsRising id_cmp c.in_ok-ids.ids.items
rises c = subst (IsRising id_cmp) c.deref-2.ensures.value (c.is_rising.ensures.0 c.if-not-is_rising.false)

shows : (c : After-last_etag) → AreApart c.args.rows.now → IsRising id_cmp c.in_ok-ids.ids.items → Shows c.in_ok-from_sorted.field-0 c.in_ok-by_collection.field-0 c.last_etag.result c.args.rows.now
shows c apart up =
    all_show c.in_ok-ids.ids.items _ _ _ c.args.rows.now c.in_ok-shared.shared.items c.in_ok-shared.ensures (record { rising = c.requires.rising; apart = apart }) c.requires.within c.in_ok-from_sorted.ensures
    (λ q. c.in_ok-ids.ensures.found q ∙ ap (row_at (folded q)) c.deref.ensures.value) c.in_ok-ids.ensures.filed up c.in_ok-by_collection.ensures c.last_etag.ensures

pub invariant_of-result : goal.invariant_of-result
invariant_of-result c =
    let at = (goal.at.invariant_of-result c).In_ok-from_sorted in
    kept_in_order _ _ _ _ 0 _ (record { shows = shows (goal.at.invariant_of-result c).After-last_etag (are_apart at) (rises at); gone_are = c.in_ok-tombstones_of.ensures; cleaned_is = uncleaned c.args.rows.now c.requires.rising })

pub returns-clause-made : goal.returns-clause-made
returns-clause-made c =
    let at = (goal.at.returns-clause-made c).In_ok-from_sorted in
    same_store _ _ _ 0 (store_of c.args.rows.now) (shows (goal.at.returns-clause-made c).After-last_etag (are_apart at) (rises at)) refl

pub returns-clause-apart : goal.returns-clause-apart
returns-clause-apart c = (λ some. are_apart (goal.at.returns-clause-apart c).In_ok-from_sorted, λ apart. refl)
