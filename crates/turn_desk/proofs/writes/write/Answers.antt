use Rattle.raven_reply.specs.ReplyView.{reply_view}
use Rattle.raven_request.specs.RequestView.{request_view}
use Rattle.spec_desk.proofs.Onwards.{on_hold}
use Rattle.turn_desk.specs.Seated.{stands_at}
use Rattle.turn_desk.proofs.Looking.{held_lacks, held_looks}
use Rattle.turn_desk.proofs.writes.write.Goals as goal

pub returns-clause-looked : goal.returns-clause-looked
returns-clause-looked g c =
    let w = c.with.ensures in
    let at = stands_at (g.C.Clock.moment c.args.clock.now) in
    held_looks reply_view c.with.result (request_view c.args.request) w.0 w.1 (at c.args.pass.now) (at c.with.new.pass) w.2 w.3 w.4.0 w.5.2 w.5.3

pub returns-clause-onward : goal.returns-clause-onward
returns-clause-onward g c = let w = c.with.ensures in on_hold c.args.pass.now.seen c.with.new.pass.seen w.0 w.1 w.2 w.3 w.5.2

pub returns-clause-lacked : goal.returns-clause-lacked
returns-clause-lacked g c =
    let w = c.with.ensures in
    let at = stands_at (g.C.Clock.moment c.args.clock.now) in
    held_lacks c.with.result (request_view c.args.request) w.0 w.1 (at c.args.pass.now) (at c.with.new.pass) w.2 w.3 w.4.1 w.5.2 w.5.3
