use Rattle.std.proofs.Common.{◌≡◌, ◌∙◌, ap, sym, subst, take_all, true}
use Rattle.std.specs.Ordering.{nat_cmp}
use Rattle.spec_data.specs.Rows.{Row}
use Rattle.spec_store.specs.Store.{last_of}
use Rattle.paged_map.specs.Pairs.{IsRising}
use Rattle.doc_store.specs.Maps.{AreFrom, by_etag, is_from, rows_in}
use Rattle.doc_store.proofs.FromLemmas.{from_on}
use Rattle.doc_store.proofs.MapLemmas.{all_shown, by_etag-rises, last_on, pairs_on, rows_in-by_etag}
use Rattle.doc_store.proofs.rows_by_etag.RowsByEtag.of.Goals as goal

pub loop-row-preserved : goal.loop-row-preserved
loop-row-preserved c =
    let etag : c.behind-row.inside.etag ≡ c.row-item.result.etag = ap (λ (x : Row). x.etag) (c.behind-row.view_is ∙ c.get.ensures) in
    record {
      pairs = pairs_on c.args.rows.now c.loop-row.row-index c.row-item.result c.in_ok-clone.field-0 _ _ _ c.loop-row-test.true (sym c.row-item.is) c.in_ok-clone.ensures.cases etag c.loop-row.invariant.pairs c.in_ok-push.ensures.items;
      last = last_on c.args.rows.now c.loop-row.row-index c.row-item.result _ c.loop-row-test.true (sym c.row-item.is) etag;
      from =
          from_on c.loop-row.least c.in_ok-least.least c.args.rows.now c.loop-row.row-index c.row-item.result c.loop-row-test.true (sym c.row-item.is) c.in_ok-least.ensures.others
          (subst (λ (x : Row). is_from c.in_ok-least.least x ≡ true) c.get-in-loop-row.ensures c.in_ok-least.ensures.own) c.loop-row.invariant.from;
    }

pub from_sorted-requires-clause-rising : goal.from_sorted-requires-clause-rising
from_sorted-requires-clause-rising c =
    subst (IsRising nat_cmp) (sym (c.loop-row.invariant.pairs ∙ ap by_etag (take_all c.loop-row.row-index c.args.rows.now c.loop-row-test.false))) (by_etag-rises 0 c.args.rows.now c.requires.rising)

pub invariant_of-result : goal.invariant_of-result
invariant_of-result c =
    let all = take_all c.loop-row.row-index c.args.rows.now c.loop-row-test.false in
    all_shown _ _ _ _ c.args.rows.now c.requires (c.in_ok-from_sorted.ensures ∙ c.loop-row.invariant.pairs ∙ ap by_etag all) (c.loop-row.invariant.last ∙ ap (last_of 0) all) c.documents_among.ensures (subst (AreFrom c.loop-row.least) all c.loop-row.invariant.from)

pub returns : goal.returns
returns c =
    ap rows_in (c.in_ok-from_sorted.ensures ∙ c.loop-row.invariant.pairs ∙ ap by_etag (take_all c.loop-row.row-index c.args.rows.now c.loop-row-test.false)) ∙ rows_in-by_etag c.args.rows.now
