use Rattle.std.proofs.lemmas.Result.{IfOk-weaker}
use Rattle.spec_query.specs.Binding.{check}
use Rattle.spec_server.specs.Asking.{Ready}
use Rattle.spec_server.specs.Several.{answer_named, recorded}
use Rattle.raven_reply.specs.ReplyView.{reply_view}
use Rattle.multi_map.proofs.Answers.{unfit-told}
use Rattle.multi_map.proofs.answer.ask.Goals as goal

pub returns-in-Err : goal.returns-in-Err
returns-in-Err c =
    let W = c.args.parts.now in
    let ask = c.args.ask.now in
    IfOk-weaker c.refused.result _ _ (λ reply h. unfit-told W ask (reply_view reply) (h (Ready (answer_named recorded W ask)) (check ask) c.in-Err.ensures.refused)) c.refused.ensures
