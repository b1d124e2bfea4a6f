use Rattle.std.proofs.Common.{Some}
use Rattle.doc_txn.specs.SettingView.{setting_of}
use Rattle.raven_reply.specs.ReplyView.{reply_view}
use Rattle.side_by_side.specs.Standing.{world_of}
use Rattle.raven_world.specs.WorldView.{change_view}
use Rattle.raven_world.proofs.Batches.{answers-none, answers-one, batched-up-to}
use Rattle.raven_world.proofs.world.World.pump_one.Goals as goal

pub returns-then-is_empty-clause-course : goal.returns-then-is_empty-clause-course
returns-then-is_empty-clause-course g c =
    let inside = c.self.inside in
    answers-none (world_of (setting_of inside.base inside.limits) inside.store inside.slots) c.args.self.now c.args.max c.args.name.now c.in_ok-slots.pumped (reply_view c.in_ok-no_index.field-0)
    c.self.view_is c.in_ok-slots.ensures.pumped (c.is_empty.ensures.0 c.if-is_empty.true) c.in_ok-no_index.ensures

pub after_batches-requires : goal.after_batches-requires
after_batches-requires g c =
    let inside = c.self.inside in
    batched-up-to (world_of (setting_of inside.base inside.limits) inside.store inside.slots) c.args.self.now (Some c.args.name.now) c.args.max c.in_ok-slots.slots c.self.view_is c.in_ok-slots.ensures.slots c.self.invariant.numbers

pub returns-clause-course : goal.returns-clause-course
returns-clause-course g c =
    let inside = c.self.inside in
    answers-one (world_of (setting_of inside.base inside.limits) inside.store inside.slots) c.args.self.now c.args.max c.args.name.now c.in_ok-slots.slots c.in_ok-slots.pumped c.first_alone.result c.is_empty.result
    (change_view c.in_ok-after_batches.field-0) c.self.view_is c.in_ok-slots.ensures.slots c.in_ok-slots.ensures.pumped c.is_empty.ensures.1 c.if-is_empty.false c.first_alone.ensures c.in_ok-after_batches.ensures
