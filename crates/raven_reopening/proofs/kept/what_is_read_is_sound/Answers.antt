use Rattle.raven_json.proofs.SoundLemmas.{reading-fine}
use Rattle.raven_reopening.proofs.kept.what_is_read_is_sound.Goals as goal

pub returns-clause-sound : goal.returns-clause-sound
returns-clause-sound c = λ bytes d h. (reading-fine bytes d h).0

pub returns-clause-shallow : goal.returns-clause-shallow
returns-clause-shallow c = λ bytes d h. (reading-fine bytes d h).1
