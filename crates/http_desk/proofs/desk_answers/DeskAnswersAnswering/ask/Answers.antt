use Rattle.http_desk.proofs.Kept.{keeps-here}
use Rattle.http_desk.proofs.desk_answers.DeskAnswersAnswering.ask.Goals as goal

pub returns-clause-kept : goal.returns-clause-kept
returns-clause-kept g c =
    let d = g.D.Desk in
    let e = c.ask_desk.ensures in
    keeps-here d.same d.standing c.args.self.now c.self.inside.desk c.ask_desk.new.desk c.self.inside.database c.self.view_is e.same e.goes_on
