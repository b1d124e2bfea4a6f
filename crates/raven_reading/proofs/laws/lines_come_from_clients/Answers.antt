use Rattle.raven_reading.proofs.Clients.{lines-client}
use Rattle.raven_reading.proofs.laws.lines_come_from_clients.Goals as goal

pub returns : goal.returns
returns c = lines-client
