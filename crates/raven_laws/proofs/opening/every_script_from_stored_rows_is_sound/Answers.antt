use Rattle.raven_laws.proofs.OpenedRuns.{lines-Sound, lines-LaterW, lines-fresh, lines-exact, lines-flags, lines-ids}
use Rattle.raven_laws.proofs.opening.every_script_from_stored_rows_is_sound.Goals as goal

pub returns-clause-sound : goal.returns-clause-sound
returns-clause-sound c = lines-Sound

pub returns-clause-goes_on : goal.returns-clause-goes_on
returns-clause-goes_on c = lines-LaterW

pub returns-clause-fresh : goal.returns-clause-fresh
returns-clause-fresh c = lines-fresh

pub returns-clause-exact : goal.returns-clause-exact
returns-clause-exact c = lines-exact

pub returns-clause-flags : goal.returns-clause-flags
returns-clause-flags c = lines-flags

pub returns-clause-ids : goal.returns-clause-ids
returns-clause-ids c = lines-ids
