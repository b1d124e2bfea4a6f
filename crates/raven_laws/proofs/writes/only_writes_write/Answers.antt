use Rattle.raven_laws.proofs.WriteLemmas.{reads-change-nothing, batches-change-no-row}
use Rattle.raven_laws.proofs.writes.only_writes_write.Goals as goal

pub returns-clause-questions : goal.returns-clause-questions
returns-clause-questions c = reads-change-nothing

pub returns-clause-batches : goal.returns-clause-batches
returns-clause-batches c = batches-change-no-row
