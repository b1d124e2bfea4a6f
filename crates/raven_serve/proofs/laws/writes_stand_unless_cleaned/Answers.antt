use Rattle.raven_serve.proofs.Standings.{sessions, stands}
use Rattle.raven_serve.proofs.laws.writes_stand_unless_cleaned.Goals as goal

pub returns-clause-follows : goal.returns-clause-follows
returns-clause-follows c = stands

pub returns-clause-sessions : goal.returns-clause-sessions
returns-clause-sessions c = sessions

pub returns-clause-servers : goal.returns-clause-servers
returns-clause-servers c = λ x y keeper q r o k e. stands x y q r o k.follows e
