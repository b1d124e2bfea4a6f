use Rattle.raven_laws.proofs.WriteLemmas.{run-given}
use Rattle.raven_laws.proofs.opening.rows_were_there_or_written.Goals as goal

pub returns : goal.returns
returns c = λ M events. run-given events M
