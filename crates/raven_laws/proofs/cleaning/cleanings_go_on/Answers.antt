use Rattle.raven_laws.proofs.CleaningLemmas.{newest-stays}
use Rattle.raven_laws.proofs.Moving.{cleaned-Moves}
use Rattle.raven_laws.proofs.cleaning.cleanings_go_on.Goals as goal

pub returns-clause-sound : goal.returns-clause-sound
returns-clause-sound c W o = (cleaned-Moves W o).sound

pub returns-clause-later : goal.returns-clause-later
returns-clause-later c W o = (cleaned-Moves W o).later

pub returns-clause-last : goal.returns-clause-last
returns-clause-last c = newest-stays
