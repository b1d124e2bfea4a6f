use Rattle.std.proofs.Common.{◌++◌, ◌∙◌, sym, ap}
use Rattle.spec_data.specs.Written.{text_of}
use Rattle.spec_server.specs.Replies.{Result, result_data}
use Rattle.raven_reply.specs.ReplyView.{result_view}
use Rattle.raven_reply.proofs.text.write_result.Goals as goal

pub returns-in_ok-write_object-in-Put : goal.returns-in_ok-write_object-in-Put
returns-in_ok-write_object-in-Put c =
    c.in_ok-write_object-in-Put.ensures
    ∙ (λ i. c.args.out.now.items ++ text_of (result_data (Result.Put (c.as_str.ensures i) (c.as_str-in-Put.ensures.spelling i))))
    ∙ ap (λ d. c.args.out.now.items ++ text_of (result_data (result_view d))) (sym c.in-Put.is)
