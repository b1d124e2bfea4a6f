use Rattle.raven_reading.proofs.TextLemmas.{opened-told}
use Rattle.raven_reopening.proofs.runs.definitions_agree_with_bodies.Goals as goal

pub returns : goal.returns
returns c = opened-told
