use Rattle.std.proofs.Common.{◌≡◌, IfOk, string_bytes, subst}
use Rattle.spec_measure.specs.Summary.{printed_summary}
use Rattle.raven_measure.proofs.summary.summary_line.Goals as goal

pub returns : goal.returns
returns g c = subst (λ s. IfOk c.printed.result (λ line. string_bytes line ≡ printed_summary s)) c.in_ok-summary.ensures c.printed.ensures
