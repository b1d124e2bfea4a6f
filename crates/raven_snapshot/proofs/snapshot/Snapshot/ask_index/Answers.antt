use Rattle.std.proofs.Common.{ap, sym, ◌∙◌}
use Rattle.std.specs.Prelude.{option_copied}
use Rattle.std.proofs.lemmas.Result.{IfOk-weaker}
use Rattle.spec_index.specs.World.{World, serving}
use Rattle.raven_reply.specs.ReplyView.{reply_view}
use Rattle.raven_snapshot.specs.AnsweredView.{answered_view}
use Rattle.raven_snapshot.proofs.Asking.{none_checked, nothing_answered, served_checked}
use Rattle.raven_snapshot.proofs.snapshot.Snapshot.ask_index.Goals as goal

pub returns-in_ok-ask_slot-in-Some-clause-answer : goal.returns-in_ok-ask_slot-in-Some-clause-answer
returns-in_ok-ask_slot-in-Some-clause-answer g c =
    let name = c.args.name.now in
    let served = ap (λ (w : World). serving w.slots name) (sym c.self.view_is) ∙ ap (λ slots. serving slots name) (sym c.list.ensures.slots) ∙ ap (serving c.list.result.now) (sym c.as_str.ensures) ∙ sym c.serving_in.ensures ∙ ap option_copied c.in-Some.is in
    served_checked c.args.self.now c.args.ask.now name c.in-Some.slot.now (reply_view c.in_ok-ask_slot-in-Some.field-0) served c.in_ok-ask_slot-in-Some.ensures.reply

pub returns-in_ok-name-in-None-clause-answer : goal.returns-in_ok-name-in-None-clause-answer
returns-in_ok-name-in-None-clause-answer g c =
    let name = c.args.name.now in
    let unserved = ap (λ (w : World). serving w.slots name) (sym c.self.view_is) ∙ ap (λ slots. serving slots name) (sym c.list.ensures.slots) ∙ ap (serving c.list.result.now) (sym c.as_str.ensures) ∙ sym c.serving_in.ensures ∙ ap option_copied c.in-None.is in
    IfOk-weaker c.unless.result _ _ (λ answered h. none_checked c.args.self.now c.args.ask.now name c.in_ok-name-in-None.name (answered_view answered) unserved c.in_ok-name-in-None.ensures.cases h) c.unless.ensures

pub returns-in_ok-name-in-None-clause-reads : goal.returns-in_ok-name-in-None-clause-reads
returns-in_ok-name-in-None-clause-reads g c = IfOk-weaker c.unless.result _ _ (λ answered h. nothing_answered (answered_view answered) _) c.unless.ensures
