use Rattle.raven_laws.proofs.PumpLemmas.{run-all}
use Rattle.raven_laws.proofs.runs.large_batches_are_enough.Goals as goal

pub returns : goal.returns
returns c = run-all
