use Rattle.std.proofs.Common.{refl}
use Rattle.raven_reply.specs.ReplyView.{reply_view}
use Rattle.spec_server.specs.Texts.{asked_of}
use Rattle.raven_run.proofs.Answered.{answers-as, answers-refused, cut-as, formed_as}
use Rattle.raven_run.proofs.Performed.{if_err, if_ok}
use Rattle.raven_run.proofs.answering.answer.Goals as goal

pub handle-requires-clause-formed : goal.handle-requires-clause-formed
handle-requires-clause-formed g c = λ _ _. formed_as c.args.bytes.now c.in-Ok-Some.field-0 c.in-Ok-Some.asks c.in-Ok-Some.field-0-is c.in-Ok-Some.ensures

pub returns-in-Ok-Some-clause-answered : goal.returns-in-Ok-Some-clause-answered
returns-in-Ok-Some-clause-answered g c =
    if_ok c.handle.result _ _
    (λ text h. answers-as c.args.bytes.now c.args.now _ _ _ _ text.items c.in-Ok-Some.field-0 c.in-Ok-Some.asks c.in-Ok-Some.field-0-is c.in-Ok-Some.ensures h)
    c.handle.ensures.handled

pub returns-in-Ok-Some-clause-cut : goal.returns-in-Ok-Some-clause-cut
returns-in-Ok-Some-clause-cut g c =
    if_err c.handle.result _ _
    (λ h. cut-as c.args.bytes.now c.args.now _ _ _ _ c.in-Ok-Some.field-0 c.in-Ok-Some.asks c.in-Ok-Some.field-0-is c.in-Ok-Some.ensures h)
    c.handle.ensures.cut

pub returns-in_ok-reply-in-Err-clause-answered : goal.returns-in_ok-reply-in-Err-clause-answered
returns-in_ok-reply-in-Err-clause-answered g c =
    if_ok c.printed.result _ _
    (λ text h. answers-refused c.args.bytes.now c.args.now _ _ _ _ text.items (reply_view c.in_ok-reply-in-Err.reply)
    (c.in_ok-reply-in-Err.ensures.reply (asked_of c.args.bytes.now) c.in-Err.ensures) h refl refl)
    c.printed.ensures
