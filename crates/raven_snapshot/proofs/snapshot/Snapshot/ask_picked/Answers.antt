use Rattle.std.proofs.Common.{ap, sym, ◌∙◌}
use Rattle.std.proofs.lemmas.Result.{IfOk-weaker}
use Rattle.index_definition.specs.ShapeView.{shape_view}
use Rattle.spec_index.specs.Optimiser.{pick}
use Rattle.spec_index.specs.World.{World}
use Rattle.query_optimizer.specs.ChoiceView.{choice_view}
use Rattle.raven_reply.specs.ReplyView.{reply_view}
use Rattle.raven_snapshot.specs.AnsweredView.{answered_view}
use Rattle.raven_snapshot.proofs.Asking.{made_checked, nothing_answered, picked_checked}
use Rattle.raven_snapshot.proofs.snapshot.Snapshot.ask_picked.Goals as goal

pub returns-in_ok-ask_slot-in-Use-clause-answer : goal.returns-in_ok-ask_slot-in-Use-clause-answer
returns-in_ok-ask_slot-in-Use-clause-answer g c =
    let W = c.args.self.now in
    let shape = shape_view c.args.shape.now in
    let used = sym (ap choice_view c.in-Use.is) ∙ c.in_ok-slot.ensures ∙ ap (pick shape c.self.inside.store.now) c.list.ensures.slots ∙ ap (λ (V : World). pick shape V.store V.slots) c.self.view_is in
    picked_checked W c.args.ask.now (pick shape W.store W.slots) c.in-Use.slot.now (reply_view c.in_ok-ask_slot-in-Use.field-0) used c.in_ok-ask_slot-in-Use.ensures.reply

pub returns-in-Make-clause-answer : goal.returns-in-Make-clause-answer
returns-in-Make-clause-answer g c =
    let W = c.args.self.now in
    let shape = shape_view c.args.shape.now in
    let made = sym (ap choice_view c.in-Make.is) ∙ c.in_ok-slot.ensures ∙ ap (pick shape c.self.inside.store.now) c.list.ensures.slots ∙ ap (λ (V : World). pick shape V.store V.slots) c.self.view_is in
    IfOk-weaker c.unless.result _ _ (λ answered h. made_checked W c.args.ask.now (pick shape W.store W.slots) (shape_view c.in-Make.shape) (answered_view answered) made h) c.unless.ensures

pub returns-in-Make-clause-reads : goal.returns-in-Make-clause-reads
returns-in-Make-clause-reads g c = IfOk-weaker c.unless.result _ _ (λ answered h. nothing_answered (answered_view answered) _) c.unless.ensures
