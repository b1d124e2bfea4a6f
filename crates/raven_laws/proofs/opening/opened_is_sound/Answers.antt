use Rattle.raven_laws.proofs.OpenLemmas.{opened_from-IsMachine, opened_from-rows}
use Rattle.raven_laws.proofs.opening.opened_is_sound.Goals as goal

pub returns-clause-sound : goal.returns-clause-sound
returns-clause-sound c = opened_from-IsMachine

pub returns-clause-kept : goal.returns-clause-kept
returns-clause-kept c = λ setting held M h. (opened_from-rows setting held M h).kept

pub returns-clause-setting : goal.returns-clause-setting
returns-clause-setting c = λ setting held M h. (opened_from-rows setting held M h).setting

pub returns-clause-notes : goal.returns-clause-notes
returns-clause-notes c = λ setting held M h. (opened_from-rows setting held M h).notes

pub returns-clause-idle : goal.returns-clause-idle
returns-clause-idle c = λ setting held M h. (opened_from-rows setting held M h).idle

pub returns-clause-fresh : goal.returns-clause-fresh
returns-clause-fresh c = λ setting held M h. (opened_from-rows setting held M h).slots
