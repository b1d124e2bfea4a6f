use Rattle.raven_laws.proofs.MachineLemmas.{run-LaterW}
use Rattle.raven_laws.proofs.runs.every_run_goes_on.Goals as goal

pub returns : goal.returns
returns c = run-LaterW
