use Rattle.http_desk.proofs.Chained.{goes-later}
use Rattle.http_desk.proofs.laws.sessions_go_on.Goals as goal

pub returns : goal.returns
returns c = goes-later
