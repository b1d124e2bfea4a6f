use Rattle.http_desk.proofs.Chained.{chained, finished}
use Rattle.http_desk.proofs.laws.sessions_are_chains.Goals as goal

pub returns-clause-so_far : goal.returns-clause-so_far
returns-clause-so_far c = chained

pub returns-clause-finished : goal.returns-clause-finished
returns-clause-finished c = λ a b bytes held now why. finished a bytes held why b now
