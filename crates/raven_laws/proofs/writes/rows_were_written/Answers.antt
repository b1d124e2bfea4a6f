use Rattle.raven_laws.proofs.WriteLemmas.{start-given}
use Rattle.raven_laws.proofs.writes.rows_were_written.Goals as goal

pub returns : goal.returns
returns c = start-given
