use Rattle.raven_laws.proofs.WriteLemmas.{put-answered}
use Rattle.raven_laws.proofs.writes.puts_are_answered.Goals as goal

pub returns : goal.returns
returns c = put-answered
