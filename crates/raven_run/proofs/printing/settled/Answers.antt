use Rattle.std.proofs.Common.{inl, inr, refl}
use Rattle.raven_reply.specs.ReplyView.{reply_view}
use Rattle.raven_desk.specs.CourseView.{course_view}
use Rattle.raven_desk.specs.SettledView.{settled_view}
use Rattle.spec_desk.specs.Stepped.{IsStopped}
use Rattle.spec_desk.proofs.Later.{Follows-itself}
use Rattle.raven_run.proofs.Performed.{if_err, if_ok, is_settled, on_err}
use Rattle.raven_run.proofs.printing.settled.Goals as goal

pub returns-clause-settled : goal.returns-clause-settled
returns-clause-settled g c =
    if_ok c.text_after.result _ _
    (λ text h. is_settled c.args.live.now c.settle.new.self (course_view c.args.course) (settled_view c.in_ok-settled.settled) text.items c.in_ok-settled.ensures.settled h)
    (c.text_after.ensures.told (reply_view c.args.course.reply) c.in_ok-text.ensures)

pub returns-clause-lacks : goal.returns-clause-lacks
returns-clause-lacks g c =
    if_err c.text_after.result (IsStopped (settled_view c.in_ok-settled.settled)) _ (λ stopped. inr (c.in_ok-settled.ensures.halted stopped)) c.text_after.ensures.lacks

pub returns-in_err-settled-clause-lacks : goal.returns-in_err-settled-clause-lacks
returns-in_err-settled-clause-lacks g c = on_err c.from_residual-in_err-settled.result _ (inr c.in_err-settled.ensures.lacks)

pub returns-in_err-text-clause-lacks : goal.returns-in_err-text-clause-lacks
returns-in_err-text-clause-lacks g c = on_err c.from_residual.result _ (inl (refl, refl))

pub returns-in_err-text-clause-later : goal.returns-in_err-text-clause-later
returns-in_err-text-clause-later g c = Follows-itself c.args.live.now
