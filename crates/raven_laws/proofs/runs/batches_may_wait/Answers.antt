use Rattle.raven_laws.proofs.MachineLemmas.{batch-IsHeld, IsHeld-later}
use Rattle.raven_laws.proofs.runs.batches_may_wait.Goals as goal

pub returns-clause-read : goal.returns-clause-read
returns-clause-read c = λ W worker max s v. batch-IsHeld W worker s v max

pub returns-clause-later : goal.returns-clause-later
returns-clause-later c = IsHeld-later
