use Rattle.raven_serve.proofs.Completing.{completes}
use Rattle.raven_serve.proofs.laws.servers_come_to_their_end.Goals as goal

pub returns : goal.returns
returns c = completes
