use Rattle.turn_desk.proofs.Standings.{goes_on}
use Rattle.turn_desk.proofs.desk.TurnDeskDesk.look_once.Goals as goal

pub returns-clause-goes_on : goal.returns-clause-goes_on
returns-clause-goes_on g c = goes_on _ c.args.self.now c.read_query.new.pass c.self.view_is c.read_query.ensures.onward
