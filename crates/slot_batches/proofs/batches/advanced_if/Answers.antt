use Rattle.std.proofs.Common.{◌∙◌, ◌∷◌, [], ap, cond, sym}
use Rattle.slot_batches.proofs.Counting.{same_slots}
use Rattle.slot_batches.proofs.batches.advanced_if.Goals as goal

pub returns-clause-bounds : goal.returns-clause-bounds
returns-clause-bounds g c =
    let s = c.args.slot.now in
    let all = c.is_chosen.ensures.batch ∙ ap (λ b. cond b (s ∷ []) []) c.if-not-is_chosen.false in
    same_slots c.args.store.now c.args.max _ _ _ c.args.steps.now c.advanced.new.steps (sym all) c.in_ok-new.ensures.bounds
