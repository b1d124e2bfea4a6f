use Rattle.std.proofs.Common.{arith, sym, refl, ap, ◌∙◌}
use Rattle.std.specs.FinMap.{get}
use Rattle.spec_data.specs.Folding.{folded}
use Rattle.reference_track.specs.Sets.{is_one_of}
use Rattle.term_index.proofs.Ordered.{is_one_of-both}
use Rattle.term_index.proofs.Found.{any_step, any_end}
use Rattle.term_index.proofs.column.Column.equal_to_one.Goals as goal

pub loop-value-preserved : goal.loop-value-preserved
loop-value-preserved c = λ q.
    any_step c.args.exact c.args.values.now c.loop-value.value-index c.value-item.result c.value-item.result (get c.args.self.now (folded q)) (is_one_of q c.loop-value.ids.items) (is_one_of q c.in_ok-more.more) (is_one_of q c.add.new.ids.items)
    c.loop-value-test.true (sym c.value-item.is) refl (ap (is_one_of q) c.in_ok-add.ensures ∙ is_one_of-both q c.loop-value.ids.items c.in_ok-more.more) (c.in_ok-more.ensures.members q)
    ∙ c.loop-value.invariant q

pub returns-clause-members : goal.returns-clause-members
returns-clause-members c = λ q.
    c.in_order.ensures.members q
    ∙ any_end c.args.exact c.args.values.now c.loop-value.value-index (get c.args.self.now (folded q)) (is_one_of q c.loop-value.ids.items) (omega arith) (c.loop-value.invariant q)
