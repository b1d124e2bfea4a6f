use Rattle.std.proofs.Common.{◌≡◌, ◌+◌, ◌∷◌, [], false, rules, take, true}
use Rattle.std.specs.Prelude.{option_copied}
use Rattle.std.specs.Result.{is_ok}
use Rattle.spec_server.specs.Batches.{pumping}
use Rattle.slot_batches.specs.Batches.{after_batch_of, chosen}
use Rattle.slot_batches.proofs.Counting.{and_more, chosen_more, mapped_more, stopped, told_more}
use Rattle.slot_batches.proofs.batches.all_advanced.Goals as goal

pub loop-slot-preserved : goal.loop-slot-preserved
loop-slot-preserved g c =
    let S = c.args.store.now in
    let index = option_copied c.args.index in
    let slots = c.args.slots.now in
    let i = c.loop-slot.slot-index in
    let within = c.loop-slot-test.true in
    let at = c.slot-item.is in
    record {
      slots = mapped_more (after_batch_of index S c.args.max) slots i _ c.loop-slot.new.items _ c.in_ok-brought.brought within at c.in_ok-brought.ensures.slot c.in_ok-push.ensures.items c.loop-slot.invariant.slots;
      pumped = told_more (pumping S c.args.max) index slots i _ c.loop-slot.pumped _ _ within at c.in_ok-brought.ensures.pumped c.in_ok-add.ensures c.loop-slot.invariant.pumped;
      bounds = and_more S c.args.max (chosen index (take i slots)) (chosen index (c.slot-item.result ∷ [])) (chosen index (take (i + 1) slots)) true c.args.steps.now c.loop-slot.steps c.advanced_if.new.steps
          (chosen_more index slots i _ within at) c.loop-slot.invariant.bounds c.in_ok-brought.ensures.bounds;
    }

pub returns-in_err-brought-clause-bounds : goal.returns-in_err-brought-clause-bounds
returns-in_err-brought-clause-bounds g c =
    let failed : is_ok c.from_residual-in_err-brought.result ≡ false = search rules in
    stopped c.args.store.now c.args.max (option_copied c.args.index) c.args.slots.now c.loop-slot.slot-index c.slot-item.result _ _ c.args.steps.now c.loop-slot.steps c.advanced_if.new.steps c.loop-slot-test.true c.slot-item.is failed
    c.loop-slot.invariant.bounds c.advanced_if.ensures.bounds

pub returns-in_err-push-clause-bounds : goal.returns-in_err-push-clause-bounds
returns-in_err-push-clause-bounds g c =
    let failed : is_ok c.from_residual-in_err-push.result ≡ false = search rules in
    stopped c.args.store.now c.args.max (option_copied c.args.index) c.args.slots.now c.loop-slot.slot-index c.slot-item.result _ _ c.args.steps.now c.loop-slot.steps c.advanced_if.new.steps c.loop-slot-test.true c.slot-item.is failed
    c.loop-slot.invariant.bounds c.in_ok-brought.ensures.bounds

pub returns-in_err-add-clause-bounds : goal.returns-in_err-add-clause-bounds
returns-in_err-add-clause-bounds g c =
    let failed : is_ok c.from_residual-in_err-add.result ≡ false = search rules in
    stopped c.args.store.now c.args.max (option_copied c.args.index) c.args.slots.now c.loop-slot.slot-index c.slot-item.result _ _ c.args.steps.now c.loop-slot.steps c.advanced_if.new.steps c.loop-slot-test.true c.slot-item.is failed
    c.loop-slot.invariant.bounds c.in_ok-brought.ensures.bounds
