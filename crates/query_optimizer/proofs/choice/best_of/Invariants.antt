use Rattle.std.proofs.Common.{◌≡◌, ◌≤◌, drop, length, filter}
use Rattle.std.specs.Prelude.{IfSome, option_map}
use Rattle.index_definition.specs.ShapeView.{shape_view}
use Rattle.spec_index.specs.Optimiser.{best, covers, slot_shape}
use Rattle.query_optimizer.specs.ChoiceView.{IsTested, slot_of}
use Rattle.query_optimizer.proofs.choice.best_of.Given as goal

abbrev pub invariant-loop-i : goal.invariant-loop-i
invariant-loop-i l = record {
  within : l.i ≤ length l.slots;
  best : option_map slot_of l.found ≡ best l.store (filter (λ s. covers (slot_shape s) (shape_view l.shape)) (drop l.i l.slots));
  tested : IfSome l.found (IsTested l.store);
}

abbrev pub decreases-loop-i : goal.decreases-loop-i
decreases-loop-i l = l.i
