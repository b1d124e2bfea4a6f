use Rattle.raven_laws.proofs.MachineLemmas.{published-Moves}
use Rattle.raven_laws.proofs.workers.publications_go_on.Goals as goal

pub returns-clause-sound : goal.returns-clause-sound
returns-clause-sound c W V h o i is = (published-Moves W h o i V is).sound

pub returns-clause-later : goal.returns-clause-later
returns-clause-later c W V h o i is = (published-Moves W h o i V is).later
