use Rattle.raven_laws.proofs.AnswerLemmas.{run-flags}
use Rattle.raven_laws.proofs.runs.flags_are_exact.Goals as goal

pub returns : goal.returns
returns c = run-flags
