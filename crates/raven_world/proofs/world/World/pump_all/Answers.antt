use Rattle.std.proofs.Common.{None, Option, List, ℕ, ap}
use Rattle.std.specs.Result.{is_ok}
use Rattle.spec_index.specs.World.{World}
use Rattle.doc_txn.specs.SettingView.{setting_of}
use Rattle.side_by_side.specs.Standing.{world_of}
use Rattle.raven_world.proofs.Batches.{answers-all, batched-up-to, counted}
use Rattle.raven_world.proofs.world.World.pump_all.Goals as goal

pub after_batches-requires : goal.after_batches-requires
after_batches-requires g c =
    let inside = c.self.inside in
    let none : Option (List ℕ) = None in
    batched-up-to (world_of (setting_of inside.base inside.limits) inside.store inside.slots) c.args.self.now none c.args.max c.in_ok-slots.slots c.self.view_is c.in_ok-slots.ensures.slots c.self.invariant.numbers

pub returns-clause-change : goal.returns-clause-change
returns-clause-change g c =
    let inside = c.self.inside in
    answers-all (world_of (setting_of inside.base inside.limits) inside.store inside.slots) c.args.self.now c.args.max c.in_ok-slots.slots c.in_ok-slots.pumped c.after_batches.result
    c.self.view_is c.in_ok-slots.ensures.slots c.in_ok-slots.ensures.pumped c.after_batches.ensures

pub returns-clause-bounds : goal.returns-clause-bounds
returns-clause-bounds g c =
    counted c.self.inside.store c.args.self.now.store c.args.max c.self.inside.slots.slots c.args.self.now.slots (is_ok c.bring_on.result) (is_ok c.after_batches.result) c.args.steps.now c.bring_on.new.steps
    (ap (λ (W : World). W.store) c.self.view_is) (ap (λ (W : World). W.slots) c.self.view_is) (ap is_ok c.in_ok-slots.was) c.bring_on.ensures.bounds
