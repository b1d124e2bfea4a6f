use Rattle.turn_desk.proofs.Standings.{goes_on}
use Rattle.turn_desk.proofs.desk.TurnDeskDesk.do_once.Goals as goal

pub returns-then-changes_nothing-clause-goes_on : goal.returns-then-changes_nothing-clause-goes_on
returns-then-changes_nothing-clause-goes_on g c = goes_on _ c.args.self.now c.read.new.pass c.self.view_is c.read.ensures.onward

pub returns-clause-goes_on : goal.returns-clause-goes_on
returns-clause-goes_on g c = goes_on _ c.args.self.now c.write.new.pass c.self.view_is c.write.ensures.onward
