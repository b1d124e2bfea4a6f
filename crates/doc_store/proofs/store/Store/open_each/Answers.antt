use Rattle.std.proofs.Common.{◌∙◌, ap, sym}
use Rattle.spec_store.specs.Store.{Store}
use Rattle.doc_store.specs.Opening.{is_sound_after}
use Rattle.doc_store.proofs.OpeningLemmas.{opens_within, opens_on, first_bad_on}
use Rattle.doc_store.proofs.store.Store.open_each.Goals as goal

pub put_lent-requires-clause-within : goal.put_lent-requires-clause-within
put_lent-requires-clause-within c =
    opens_within c.loop-row.store c.args.rows.now c.loop-row.row-index c.row-item.result c.loop-row.invariant.so_far c.loop-row-test.true c.requires.few (ap (is_sound_after c.loop-row.store.rows) (sym c.get.ensures) ∙ sym c.is_sound_after.ensures ∙ c.if-not-is_sound_after.false)

pub loop-row-preserved : goal.loop-row-preserved
loop-row-preserved c = record {
  so_far = opens_on c.loop-row.store c.args.rows.now c.loop-row.row-index c.row-item.result c.in_ok-store-2.store c.loop-row.invariant.so_far
      c.loop-row-test.true (sym c.row-item.is) (ap (is_sound_after c.loop-row.store.rows) (sym c.get.ensures) ∙ sym c.is_sound_after.ensures ∙ c.if-not-is_sound_after.false) c.in_ok-store-2.ensures;
  fresh = ap (λ (S : Store). S.cleaned) c.in_ok-store-2.ensures ∙ c.loop-row.invariant.fresh;
  bad = first_bad_on c.loop-row.store c.args.rows.now c.loop-row.row-index c.row-item.result c.in_ok-store-2.store _
      c.loop-row-test.true (sym c.row-item.is) (ap (is_sound_after c.loop-row.store.rows) (sym c.get.ensures) ∙ sym c.is_sound_after.ensures ∙ c.if-not-is_sound_after.false) c.in_ok-store-2.ensures c.loop-row.invariant.bad;
}
