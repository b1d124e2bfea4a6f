use Rattle.http_desk.proofs.Completes.{completes}
use Rattle.http_desk.proofs.laws.valid_sessions_come_to_their_end.Goals as goal

pub returns : goal.returns
returns c = completes
