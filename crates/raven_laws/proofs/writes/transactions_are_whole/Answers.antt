use Rattle.raven_laws.proofs.WriteLemmas.{bulk-answered}
use Rattle.raven_laws.proofs.writes.transactions_are_whole.Goals as goal

pub returns : goal.returns
returns c = bulk-answered
