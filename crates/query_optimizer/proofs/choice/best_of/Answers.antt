use Rattle.std.proofs.Common.{arith, ap, ◌∙◌}
use Rattle.std.specs.Prelude.{option_map}
use Rattle.index_definition.specs.ShapeView.{shape_view}
use Rattle.spec_index.specs.Optimiser.{better, covers, slot_shape}
use Rattle.spec_index.specs.World.{Slot}
use Rattle.query_optimizer.specs.ChoiceView.{slot_of}
use Rattle.query_optimizer.proofs.Picking.{one_better}
use Rattle.query_optimizer.proofs.choice.best_of.Goals as goal

pub loop-i-preserved-then-can_answer : goal.loop-i-preserved-then-can_answer
loop-i-preserved-then-can_answer c =
    let S = c.args.store.now in
    let found = option_map slot_of c.loop-i.found in
    record {
      within = omega (arith, c.loop-i.invariant.within);
      best =
          one_better S (λ s. covers (slot_shape s) (shape_view c.args.shape.now)) c.args.slots.now c.loop-i.i c.index-slots-i.result found (slot_of c.better.result) c.loop-i-test.true
          c.loop-i.invariant.within c.index-slots-i.is c.if-can_answer.ensures c.loop-i.invariant.best
          (c.better.ensures.best S c.tested.ensures.fresh c.loop-i.invariant.tested ∙ ap (λ (s : Slot). better S s found) c.tested.ensures.slot);
      tested = c.better.ensures.tested S c.tested.ensures.fresh c.loop-i.invariant.tested;
    }
