use Rattle.std.proofs.Common.{◌≡◌, Err, IfSome, Ok, subst}
use Rattle.spec_store.specs.Store.{last}
use Rattle.spec_index.specs.World.{World, remove}
use Rattle.spec_server.specs.Replies.{Removed}
use Rattle.doc_txn.specs.SettingView.{setting_of}
use Rattle.raven_reply.specs.ReplyView.{reply_view}
use Rattle.side_by_side.specs.Changes.{answer_view as slot_answer, change_view}
use Rattle.raven_world.specs.Roomy.{NumbersUpTo}
use Rattle.raven_world.specs.WorldView.{answer_view}
use Rattle.raven_world.proofs.Numbers.{removed-numbers}
use Rattle.raven_world.proofs.Steps.{reslots-refused, reslotted}
use Rattle.raven_world.proofs.world.World.remove.Goals as goal

pub rewrite-requires : goal.rewrite-requires
rewrite-requires c =
    let change = change_view c.in-Ok.field-0 in
    removed-numbers c.args.now c.args.self.now c.args.name.now change (subst (λ (W : World). NumbersUpTo (last W.store) W.slots) c.self.view_is c.self.invariant.numbers)
    (subst (λ (W : World). Ok change ≡ remove W c.args.name.now) c.self.view_is (c.in-Ok.ensures (setting_of c.self.inside.base c.self.inside.limits) c.self.inside.store))

pub returns-in_ok-reply-in-Ok : goal.returns-in_ok-reply-in-Ok
returns-in_ok-reply-in-Ok c =
    let change = change_view c.in-Ok.field-0 in
    reslotted c.args.self.now c.args.now Removed c.args.name.now (remove c.args.self.now c.args.name.now) change (reply_view c.in_ok-reply-in-Ok.reply) (answer_view c.rewrite.result)
    (subst (λ (W : World). Ok change ≡ remove W c.args.name.now) c.self.view_is (c.in-Ok.ensures (setting_of c.self.inside.base c.self.inside.limits) c.self.inside.store))
    c.in_ok-reply-in-Ok.ensures (c.rewrite.ensures c.in-Ok.field-0.name)

pub returns-in_ok-slots_refused-in-Err : goal.returns-in_ok-slots_refused-in-Err
returns-in_ok-slots_refused-in-Err c =
    reslots-refused c.args.self.now c.args.now Removed c.args.name.now (remove c.args.self.now c.args.name.now) c.in-Err.refusal (reply_view c.in_ok-slots_refused-in-Err.field-0)
    (subst (λ (W : World). IfSome (slot_answer (Err c.in-Err.refusal)) (λ change. change ≡ remove W c.args.name.now)) c.self.view_is (c.in-Err.ensures (setting_of c.self.inside.base c.self.inside.limits) c.self.inside.store))
    c.in_ok-slots_refused-in-Err.ensures
