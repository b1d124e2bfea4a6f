use Rattle.raven_laws.proofs.PumpLemmas.{run-moves}
use Rattle.raven_laws.proofs.runs.batches_move_what_is_stale.Goals as goal

pub returns : goal.returns
returns c = run-moves
