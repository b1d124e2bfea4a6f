use Rattle.raven_reopening.proofs.LineLemmas.{lines-open}
use Rattle.raven_reopening.proofs.runs.a_script_opens_again.Goals as goal

pub returns : goal.returns
returns c = lines-open
