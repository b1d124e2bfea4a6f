use Rattle.raven_laws.proofs.CleaningLemmas.{rows-Stand}
use Rattle.raven_laws.proofs.cleaning.rows_stand_unless_cleaned.Goals as goal

pub returns : goal.returns
returns c = rows-Stand
