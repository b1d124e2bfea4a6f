use Rattle.std.proofs.Common.{◌≡◌, List, Some, false, not, ◌<◌, ◌∙◌, ap, arith, subst, sym}
use Rattle.spec_data.specs.Folding.{same_key}
use Rattle.spec_data.specs.Rows.{Row, is_document, key}
use Rattle.spec_store.specs.Cleaning.{old_tombstones, without_tombstones}
use Rattle.doc_store.specs.Bounds.{AreRows}
use Rattle.doc_store.specs.Maps.{without_key}
use Rattle.spec_store.specs.Store.{Store, last, last_of, row_at}
use Rattle.spec_store.proofs.CleanLemmas.{old_means}
use Rattle.doc_store.proofs.TombstoneLemmas.{AreRows-filter, IsFirstOld, all_cleaned, all_out, before_last, first_is, last_out, left_on, old_on}
use Rattle.doc_store.proofs.store.Store.without.Goals as goal
use Rattle.doc_store.proofs.store.Store.without.Goals.{After-get}

-- the row is the first of the old tombstones that are left
first : (c : After-get) → IsFirstOld c.args.cleaned c.loop-row.store.rows c.row-item.result
first c =
    first_is c.args.cleaned c.loop-row.store.rows c.as_slice-row-items.result.now c.loop-row.row-index c.row-item.result c.loop-row.invariant.rows c.loop-row-test.true (sym c.row-item.is) c.loop-row.invariant.old

before : (c : After-get) → c.row-item.result.etag < last c.loop-row.store
before c =
    before_last c.args.cleaned c.loop-row.store.rows c.row-item.result c.loop-row.invariant.rows.rising (first c)
    (let same = c.loop-row.invariant.last in let below = c.requires.below in omega arith)

pub without_tombstone-requires-clause-here : goal.without_tombstone-requires-clause-here
without_tombstone-requires-clause-here c =
    subst (λ (r : Row). row_at (key r) c.loop-row.store.rows ≡ Some r) (sym c.get.ensures) (first (goal.at.without_tombstone-requires-clause-here c).After-get).here

pub without_tombstone-requires-clause-tombstone : goal.without_tombstone-requires-clause-tombstone
without_tombstone-requires-clause-tombstone c =
    subst (λ (r : Row). is_document r ≡ false) (sym c.get.ensures)
    (old_means c.args.cleaned c.row-item.result (first (goal.at.without_tombstone-requires-clause-tombstone c).After-get).old).0

pub without_tombstone-requires-clause-before : goal.without_tombstone-requires-clause-before
without_tombstone-requires-clause-before c =
    subst (λ (r : Row). r.etag < last c.loop-row.store) (sym c.get.ensures) (before (goal.at.without_tombstone-requires-clause-before c).After-get)

pub loop-row-preserved : goal.loop-row-preserved
loop-row-preserved c =
    let at = (goal.at.loop-row-preserved c).After-get in
    let rows : List Row = c.loop-row.store.rows in
    let r : Row = c.row-item.result in
    let made : c.in_ok-store-2.store.rows ≡ without_key (key r) rows = ap (λ (S : Store). S.rows) c.in_ok-store-2.ensures ∙ ap (λ (x : Row). without_key (key x) rows) c.get.ensures in
    record {
      old = ap (old_tombstones c.args.cleaned) made ∙ old_on c.args.cleaned rows c.as_slice-row-items.result.now c.loop-row.row-index r c.loop-row.invariant.rows c.loop-row-test.true (sym c.row-item.is) c.loop-row.invariant.old;
      others = ap (without_tombstones c.args.cleaned) made ∙ left_on c.args.cleaned rows r c.loop-row.invariant.rows.apart (first at) ∙ c.loop-row.invariant.others;
      last = ap (last_of 0) made ∙ last_out 0 0 (key r) rows r c.loop-row.invariant.rows.apart (first at).here (before at) ∙ c.loop-row.invariant.last;
      rows = subst AreRows (sym made) (AreRows-filter (λ x. not (same_key (key r) (key x))) rows c.loop-row.invariant.rows);
    }

pub cleaned_up_to-requires : goal.cleaned_up_to-requires
cleaned_up_to-requires c =
    all_cleaned c.args.cleaned c.loop-row.store.rows (all_out c.args.cleaned c.loop-row.store.rows c.as_slice-row-items.result.now c.loop-row.row-index c.loop-row-test.false c.loop-row.invariant.old)
    (let same = c.loop-row.invariant.last in let below = c.requires.below in omega arith)

pub returns : goal.returns
returns c =
    c.cleaned_up_to.ensures
    ∙ ap (λ (rows : List Row). let S : Store = record { rows = rows; cleaned = c.args.cleaned } in S)
    (sym (all_out c.args.cleaned c.loop-row.store.rows c.as_slice-row-items.result.now c.loop-row.row-index c.loop-row-test.false c.loop-row.invariant.old) ∙ c.loop-row.invariant.others)
