use Rattle.std.proofs.Common.{subst}
use Rattle.raven_value.specs.Refusal.{fault_in}
use Rattle.raven_reply.specs.ReplyView.{reply_view}
use Rattle.raven_request.specs.RequestRead.{IsRefusedFor}
use Rattle.raven_request.proofs.Refused.{if_ok, refused_id, refused_name}
use Rattle.raven_request.proofs.refusal.reply_to_refusal.Goals as goal

pub returns-in-BadId-clause-reply : goal.returns-in-BadId-clause-reply
returns-in-BadId-clause-reply c =
    if_ok c.reply_to_fault.result _ _
    (λ reply h asked for. let a = subst (IsRefusedFor asked) c.in-BadId.is for in refused_id asked a.read (fault_in c.in-BadId.refusal) (reply_view reply) a.comes a.told h)
    c.reply_to_fault.ensures.reply

pub returns-in-BadName-clause-reply : goal.returns-in-BadName-clause-reply
returns-in-BadName-clause-reply c =
    if_ok c.reply_to_fault-in-BadName.result _ _
    (λ reply h asked for. let a = subst (IsRefusedFor asked) c.in-BadName.is for in refused_name asked a.read (fault_in c.in-BadName.refusal) (reply_view reply) a.comes a.told h)
    c.reply_to_fault-in-BadName.ensures.reply
