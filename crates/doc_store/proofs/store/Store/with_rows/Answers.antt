use Rattle.std.proofs.Common.{◌∙◌, ap, sym}
use Rattle.spec_store.specs.Store.{with_rows}
use Rattle.doc_store.proofs.Grown.{IsWithin-step}
use Rattle.doc_store.proofs.store.Store.with_rows.Goals as goal

pub put_lent-requires-clause-within : goal.put_lent-requires-clause-within
put_lent-requires-clause-within c =
    IsWithin-step c.loop-row.store _ c.as_slice-row-items.result.now c.loop-row.row-index c.row-item.result c.loop-row-test.true (sym c.row-item.is) c.loop-row.invariant.sound c.loop-row.invariant.follow
    (c.loop-row.invariant.goes ∙ ap (with_rows c.args.self.now) c.as_slice-row-items.ensures) c.requires.within
