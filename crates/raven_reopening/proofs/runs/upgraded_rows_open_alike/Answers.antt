use Rattle.raven_reopening.proofs.UpgradeLemmas.{held-upgraded}
use Rattle.raven_reopening.proofs.runs.upgraded_rows_open_alike.Goals as goal

pub returns : goal.returns
returns c = held-upgraded
