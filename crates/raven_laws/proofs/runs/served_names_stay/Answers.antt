use Rattle.raven_laws.proofs.ServedLemmas.{step-served}
use Rattle.raven_laws.proofs.runs.served_names_stay.Goals as goal

pub returns : goal.returns
returns c = step-served
