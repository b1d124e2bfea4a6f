use Rattle.raven_reopening.proofs.ReadLemmas.{form-read}
use Rattle.raven_reopening.proofs.kept.stored_rows_are_read_back.Goals as goal

pub returns : goal.returns
returns c = form-read
