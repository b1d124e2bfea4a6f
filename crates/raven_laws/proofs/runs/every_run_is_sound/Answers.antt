use Rattle.raven_laws.proofs.MachineLemmas.{run-IsMachine}
use Rattle.raven_laws.proofs.runs.every_run_is_sound.Goals as goal

pub returns : goal.returns
returns c = run-IsMachine
