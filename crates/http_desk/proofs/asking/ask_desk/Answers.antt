use Rattle.spec_http.specs.Requests.{asked_over_http}
use Rattle.spec_desk.proofs.Onwards.{goes_on_itself}
use Rattle.http_desk.proofs.Asked.{from-desk, from-refusal, looks-here}
use Rattle.http_desk.proofs.asking.ask_desk.Goals as goal

pub ask-requires-clause-some : goal.ask-requires-clause-some
ask-requires-clause-some g c = looks-here c.args.database.now c.args.request.now c.in-Ok.asks c.in-Ok.ensures.asked

pub returns-in_ok-receipt-in-Ok-clause-answered : goal.returns-in_ok-receipt-in-Ok-clause-answered
returns-in_ok-receipt-in-Ok-clause-answered g c =
    let d = g.D.Desk in
    let e = c.ask.ensures in
    from-desk d.link d.standing (asked_over_http c.args.database.now c.args.request.now) c.in-Ok.asks c.args.desk.now c.in_ok-receipt-in-Ok.receipt c.args.close c.answer.result c.ask.new.self
    c.in-Ok.ensures.asked c.in_ok-receipt-in-Ok.ensures.asked e.goes_on c.answer.ensures

pub returns-in-Err-clause-answered : goal.returns-in-Err-clause-answered
returns-in-Err-clause-answered g c =
    let d = g.D.Desk in
    from-refusal d.link d.standing (asked_over_http c.args.database.now c.args.request.now) c.in-Err.refusal c.args.desk.now c.args.close c.answer_to_refusal.result c.in-Err.ensures.asked
    c.answer_to_refusal.ensures

pub returns-in-Err-clause-goes_on : goal.returns-in-Err-clause-goes_on
returns-in-Err-clause-goes_on g c = goes_on_itself (g.D.Desk.standing c.args.desk.now)
