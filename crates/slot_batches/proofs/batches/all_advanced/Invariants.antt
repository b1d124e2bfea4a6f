use Rattle.std.proofs.Common.{◌≡◌, map, take, true}
use Rattle.std.specs.Prelude.{option_copied}
use Rattle.spec_server.specs.Batches.{pumping}
use Rattle.slot_batches.specs.Batches.{CountFew, after_batch_of, chosen}
use Rattle.slot_batches.proofs.batches.all_advanced.Given as goal

abbrev pub invariant-loop-slot : goal.invariant-loop-slot
invariant-loop-slot g l = record {
  slots : l.new.items ≡ map (after_batch_of (option_copied l.index) l.store l.max) (take l.slot-index l.slots);
  pumped : l.pumped ≡ map (pumping l.store l.max) (chosen (option_copied l.index) (take l.slot-index l.slots));
  bounds : CountFew l.store l.max (chosen (option_copied l.index) (take l.slot-index l.slots)) true l.fn.steps l.steps;
}
