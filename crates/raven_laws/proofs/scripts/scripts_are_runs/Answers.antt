use Rattle.raven_laws.proofs.ScriptLemmas.{lines-run}
use Rattle.raven_laws.proofs.scripts.scripts_are_runs.Goals as goal

pub returns : goal.returns
returns c = lines-run
