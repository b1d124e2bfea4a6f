use Rattle.raven_laws.proofs.CleaningLemmas.{run-last}
use Rattle.raven_laws.proofs.cleaning.last_etags_never_fall.Goals as goal

pub returns : goal.returns
returns c M events i from = run-last events M i from
