use Rattle.raven_laws.proofs.OpenedRuns.{kept-Sound, kept-LaterW, kept-fresh, kept-exact, kept-flags, kept-ids}
use Rattle.raven_laws.proofs.opening.every_run_from_stored_rows_is_sound.Goals as goal

pub returns-clause-sound : goal.returns-clause-sound
returns-clause-sound c = kept-Sound

pub returns-clause-goes_on : goal.returns-clause-goes_on
returns-clause-goes_on c = kept-LaterW

pub returns-clause-fresh : goal.returns-clause-fresh
returns-clause-fresh c = kept-fresh

pub returns-clause-exact : goal.returns-clause-exact
returns-clause-exact c = kept-exact

pub returns-clause-flags : goal.returns-clause-flags
returns-clause-flags c = kept-flags

pub returns-clause-ids : goal.returns-clause-ids
returns-clause-ids c = kept-ids
