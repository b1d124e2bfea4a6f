use Rattle.raven_laws.proofs.ChoiceLemmas.{one-chosen, pick-chosen}
use Rattle.raven_laws.proofs.runs.picks_are_best.Goals as goal

pub returns-clause-picked : goal.returns-clause-picked
returns-clause-picked c = pick-chosen

pub returns-clause-one : goal.returns-clause-one
returns-clause-one c = one-chosen
