use Rattle.raven_reopening.proofs.BackLemmas.{run-opens}
use Rattle.raven_reopening.proofs.runs.a_run_opens_again.Goals as goal

pub returns : goal.returns
returns c = run-opens
