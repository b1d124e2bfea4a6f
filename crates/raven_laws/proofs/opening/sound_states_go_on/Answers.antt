use Rattle.raven_laws.proofs.OpenedRuns.{go-IsMachine, go-LaterW}
use Rattle.raven_laws.proofs.opening.sound_states_go_on.Goals as goal

pub returns-clause-sound : goal.returns-clause-sound
returns-clause-sound c = go-IsMachine

pub returns-clause-later : goal.returns-clause-later
returns-clause-later c = go-LaterW
