use Rattle.std.proofs.Common.{◌≡◌, List, [], sym, subst, arith}
use Rattle.raven_reply.specs.ReplyView.{reply_view}
use Rattle.raven_request.specs.RequestView.{request_view}
use Rattle.spec_desk.specs.Lived.{Seen}
use Rattle.spec_desk.proofs.Asking.{Asking, begins, ends, stops_behind, stops_first}
use Rattle.spec_desk.proofs.Onwards.{goes_on_then}
use Rattle.raven_desk.proofs.Changes.{on_err}
use Rattle.raven_desk.proofs.desk.Desk.ask_once.Goals as goal

pub returns-in_err-catch_up-clause-goes_on : goal.returns-in_err-catch_up-clause-goes_on
returns-in_err-catch_up-clause-goes_on g c =
    let at = g.Self.Desk.standing in goes_on_then (at c.args.self.now) (at c.do_once.new.self) (at c.catch_up.new.self) c.do_once.ensures.goes_on c.catch_up.ensures.goes_on

pub returns-clause-asked : goal.returns-clause-asked
returns-clause-asked g c =
    let d = g.Self.Desk in
    let q = request_view c.args.request in
    let x = d.standing c.args.self.now in
    let mid = d.standing c.do_once.new.self in
    let none : c.new-earlier.result.items ≡ [] = c.new-earlier.ensures.items in
    ends d.link q x (record { shot = c.in_ok-shot.shot; earlier = c.new-earlier.result.items; reply = reply_view c.in_ok-shot.reply }) mid (d.standing c.catch_up.new.self)
    (subst (λ (e : List Seen). Asking d.link q x e c.in_ok-shot.shot (reply_view c.in_ok-shot.reply) mid) (sym none)
    (begins d.link q g.met.Self.Desk.link_same x c.in_ok-shot.shot (reply_view c.in_ok-shot.reply) mid c.in_ok-shot.ensures.looked))
    c.do_once.ensures.goes_on.clock c.do_once.ensures.goes_on.pump (rw none (let once = c.requires.once in omega arith)) (λ t. rw none (let once = c.requires.once in omega arith))
    c.in_ok-catch_up.ensures.went

pub returns-clause-goes_on : goal.returns-clause-goes_on
returns-clause-goes_on g c =
    let at = g.Self.Desk.standing in goes_on_then (at c.args.self.now) (at c.do_once.new.self) (at c.catch_up.new.self) c.do_once.ensures.goes_on c.catch_up.ensures.goes_on

-- memory ran out in the look
pub returns-in_err-shot-clause-lacked : goal.returns-in_err-shot-clause-lacked
returns-in_err-shot-clause-lacked g c =
    let d = g.Self.Desk in
    on_err c.from_residual.result _
    (stops_first d.link (request_view c.args.request) g.met.Self.Desk.link_same (d.standing c.args.self.now) (d.standing c.do_once.new.self) (let once = c.requires.once in omega arith)
    c.in_err-shot.ensures.lacked)

-- or behind the request
pub returns-in_err-catch_up-clause-lacked : goal.returns-in_err-catch_up-clause-lacked
returns-in_err-catch_up-clause-lacked g c =
    let d = g.Self.Desk in
    let q = request_view c.args.request in
    let x = d.standing c.args.self.now in
    let mid = d.standing c.do_once.new.self in
    let none : c.new-earlier.result.items ≡ [] = c.new-earlier.ensures.items in
    on_err c.from_residual-in_err-catch_up.result _
    (stops_behind d.link q x (record { shot = c.in_ok-shot.shot; earlier = c.new-earlier.result.items; reply = reply_view c.in_ok-shot.reply }) mid (d.standing c.catch_up.new.self)
    (subst (λ (e : List Seen). Asking d.link q x e c.in_ok-shot.shot (reply_view c.in_ok-shot.reply) mid) (sym none)
    (begins d.link q g.met.Self.Desk.link_same x c.in_ok-shot.shot (reply_view c.in_ok-shot.reply) mid c.in_ok-shot.ensures.looked))
    c.do_once.ensures.goes_on.clock c.do_once.ensures.goes_on.pump (rw none (let once = c.requires.once in omega arith)) (λ t. rw none (let once = c.requires.once in omega arith))
    c.in_err-catch_up.ensures.lacked)
