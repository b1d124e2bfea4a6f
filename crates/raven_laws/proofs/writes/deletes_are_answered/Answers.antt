use Rattle.raven_laws.proofs.WriteLemmas.{delete-answered}
use Rattle.raven_laws.proofs.writes.deletes_are_answered.Goals as goal

pub returns : goal.returns
returns c = delete-answered
