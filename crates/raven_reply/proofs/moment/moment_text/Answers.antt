use Rattle.std.proofs.Common.{◌-◌, ◌∙◌, arith, min, Some}
use Rattle.std.proofs.lemmas.Result.{IfOk-weaker}
use Rattle.spec_data.specs.Limits.{moments_end}
use Rattle.raven_reply.proofs.Moments.{shown_moment}
use Rattle.raven_reply.proofs.moment.moment_text.Goals as goal

pub returns : goal.returns
returns c =
    IfOk-weaker c.of.result _ _
    (λ text kept. kept ∙ c.as_str.ensures.value
    ∙ shown_moment c.precision-printer.result c.instant.result _ (min c.args.moment (moments_end - 1)) (omega arith)
    (c.precision-printer.ensures ∙ (λ i. ((c.new.ensures i).0, (c.new.ensures i).1, Some 7))) c.instant.ensures c.timestamp_text.ensures)
    c.of.ensures
