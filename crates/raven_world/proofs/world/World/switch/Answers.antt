use Rattle.std.proofs.Common.{◌≡◌, ◌+◌, ℕ, Err, IfSome, Ok, ap, subst}
use Rattle.spec_store.specs.Store.{last}
use Rattle.spec_index.specs.World.{World, switch}
use Rattle.spec_server.specs.Replies.{Switched}
use Rattle.raven_reply.specs.ReplyView.{reply_view}
use Rattle.side_by_side.specs.Changes.{answer_view as slot_answer, change_view}
use Rattle.raven_world.specs.Roomy.{NumbersUpTo}
use Rattle.raven_world.specs.WorldView.{answer_view}
use Rattle.raven_world.proofs.Numbers.{switched-numbers}
use Rattle.raven_world.proofs.Steps.{reslots-refused, reslotted}
use Rattle.raven_world.proofs.world.World.switch.Goals as goal

pub rewrite-requires : goal.rewrite-requires
rewrite-requires c =
    let change = change_view c.in-Ok.field-0 in
    switched-numbers c.args.now c.args.self.now c.args.name.now change (subst (λ (W : World). NumbersUpTo (last W.store) W.slots) c.self.view_is c.self.invariant.numbers)
    (subst (λ (W : World). Ok change ≡ switch W c.args.name.now) c.self.view_is (c.in-Ok.ensures c.self.inside.base))

pub returns-in-Ok : goal.returns-in-Ok
returns-in-Ok c =
    let W = c.args.self.now in
    let change = change_view c.in-Ok.field-0 in
    reslotted W c.args.now (Switched (last W.store + 1)) c.args.name.now (switch W c.args.name.now) change (Switched c.next_number-etag.result c.in-Ok.field-0.name) (answer_view c.rewrite.result)
    (subst (λ (V : World). Ok change ≡ switch V c.args.name.now) c.self.view_is (c.in-Ok.ensures c.self.inside.base))
    (ap (λ (e : ℕ). Switched e c.in-Ok.field-0.name) c.next_number-etag.ensures) (c.rewrite.ensures c.in-Ok.field-0.name)

pub returns-in_ok-slots_refused-in-Err : goal.returns-in_ok-slots_refused-in-Err
returns-in_ok-slots_refused-in-Err c =
    let W = c.args.self.now in
    reslots-refused W c.args.now (Switched (last W.store + 1)) c.args.name.now (switch W c.args.name.now) c.in-Err.refusal (reply_view c.in_ok-slots_refused-in-Err.field-0)
    (subst (λ (V : World). IfSome (slot_answer (Err c.in-Err.refusal)) (λ change. change ≡ switch V c.args.name.now)) c.self.view_is (c.in-Err.ensures c.self.inside.base))
    c.in_ok-slots_refused-in-Err.ensures
