use Rattle.raven_laws.proofs.AnswerLemmas.{Sound-fresh, Sound-ids}
use Rattle.raven_laws.proofs.FlagLemmas.{Sound-flags}
use Rattle.raven_laws.proofs.MatchLemmas.{Sound-exact}
use Rattle.raven_laws.proofs.opening.sound_states_answer_truly.Goals as goal

pub returns-clause-fresh : goal.returns-clause-fresh
returns-clause-fresh c = Sound-fresh

pub returns-clause-exact : goal.returns-clause-exact
returns-clause-exact c = Sound-exact

pub returns-clause-flags : goal.returns-clause-flags
returns-clause-flags c = Sound-flags

pub returns-clause-ids : goal.returns-clause-ids
returns-clause-ids c = Sound-ids
