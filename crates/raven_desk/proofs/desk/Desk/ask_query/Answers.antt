use Rattle.std.proofs.Common.{List, [], ◌∷◌, sym, subst, arith, length-append}
use Rattle.spec_server.specs.Requests.{Ask}
use Rattle.raven_reply.specs.ReplyView.{reply_view}
use Rattle.spec_desk.specs.Lived.{Seen}
use Rattle.spec_desk.proofs.Asking.{Asking, again, begins, ends, stops_again, stops_behind, stops_between, stops_first}
use Rattle.spec_desk.proofs.Onwards.{goes_on_then}
use Rattle.raven_desk.proofs.Changes.{on_err}
use Rattle.raven_desk.proofs.desk.Desk.ask_query.Goals as goal

pub loop-left-init : goal.loop-left-init
loop-left-init g c =
    let l = c.look_once.ensures in
    let d = g.Self.Desk in
    let q = Ask c.args.ask.now in
    let x = d.standing c.args.self.now in
    let y = d.standing c.look_once.new.self in
    record {
      asking = subst (λ (e : List Seen). Asking d.link q x e c.in_ok-shot.shot (reply_view c.in_ok-shot.reply) y) (sym c.new-earlier.ensures.items)
          (begins d.link q g.met.Self.Desk.link_same x c.in_ok-shot.shot (reply_view c.in_ok-shot.reply) y c.in_ok-shot.ensures.looked);
      goes_on = l.goes_on;
      same = l.same;
      count = rw c.new-earlier.ensures.items (let most = c.looks_at-left.ensures in let some = c.requires.some in omega arith);
    }

pub returns-in_err-next-clause-goes_on : goal.returns-in_err-next-clause-goes_on
returns-in_err-next-clause-goes_on g c =
    let at = g.Self.Desk.standing in
    goes_on_then (at c.args.self.now) (at c.loop-left.self) (at c.look_once-in-loop-left.new.self) c.loop-left.invariant.goes_on c.look_once-in-loop-left.ensures.goes_on

pub loop-left-preserved : goal.loop-left-preserved
loop-left-preserved g c =
    let l = c.look_once-in-loop-left.ensures in
    let was = c.loop-left.invariant in
    let d = g.Self.Desk in
    let q = Ask c.args.ask.now in
    let x = d.standing c.args.self.now in
    let mid = d.standing c.loop-left.self in
    let y = d.standing c.look_once-in-loop-left.new.self in
    let t = c.loop-left-test.ensures in
    let p = c.in_ok-push.ensures.items in
    record {
      asking = subst (λ (e : List Seen). Asking d.link q x e c.in_ok-next.next (reply_view c.in_ok-next.answer) y) (sym p)
          (again d.link q x c.loop-left.earlier.items c.loop-left.shot (reply_view c.loop-left.reply) mid c.in_ok-next.next (reply_view c.in_ok-next.answer) y was.asking was.goes_on.clock t.1
          c.in_ok-next.ensures.looked);
      goes_on = goes_on_then x mid y was.goes_on l.goes_on;
      same = g.met.Self.Desk.same_on c.args.self.now c.loop-left.self c.look_once-in-loop-left.new.self was.same l.same;
      count = rw p (let a = t.0 in let b = was.count in let e = length-append c.loop-left.earlier.items (c.loop-left.shot ∷ []) in omega arith);
    }

pub returns-in_err-catch_up-clause-goes_on : goal.returns-in_err-catch_up-clause-goes_on
returns-in_err-catch_up-clause-goes_on g c =
    let at = g.Self.Desk.standing in goes_on_then (at c.args.self.now) (at c.loop-left.self) (at c.catch_up.new.self) c.loop-left.invariant.goes_on c.catch_up.ensures.goes_on

pub returns-clause-asked : goal.returns-clause-asked
returns-clause-asked g c =
    let was = c.loop-left.invariant in
    let d = g.Self.Desk in
    ends d.link (Ask c.args.ask.now) (d.standing c.args.self.now) (record { shot = c.loop-left.shot; earlier = c.loop-left.earlier.items; reply = reply_view c.loop-left.reply }) (d.standing c.loop-left.self)
    (d.standing c.catch_up.new.self) was.asking was.goes_on.clock was.goes_on.pump (let b = was.count in omega arith)
    (λ t. let none = c.loop-left-test.ensures t in let b = was.count in omega arith) c.in_ok-catch_up.ensures.went

pub returns-clause-goes_on : goal.returns-clause-goes_on
returns-clause-goes_on g c =
    let at = g.Self.Desk.standing in goes_on_then (at c.args.self.now) (at c.loop-left.self) (at c.catch_up.new.self) c.loop-left.invariant.goes_on c.catch_up.ensures.goes_on

pub returns-in_err-next-clause-same : goal.returns-in_err-next-clause-same
returns-in_err-next-clause-same g c =
    g.met.Self.Desk.same_on c.args.self.now c.loop-left.self c.look_once-in-loop-left.new.self c.loop-left.invariant.same c.look_once-in-loop-left.ensures.same

pub returns-in_err-catch_up-clause-same : goal.returns-in_err-catch_up-clause-same
returns-in_err-catch_up-clause-same g c = g.met.Self.Desk.same_on c.args.self.now c.loop-left.self c.catch_up.new.self c.loop-left.invariant.same c.catch_up.ensures.same

pub returns-clause-same : goal.returns-clause-same
returns-clause-same g c = g.met.Self.Desk.same_on c.args.self.now c.loop-left.self c.catch_up.new.self c.loop-left.invariant.same c.catch_up.ensures.same

-- memory ran out in the first look
pub returns-in_err-shot-clause-lacked : goal.returns-in_err-shot-clause-lacked
returns-in_err-shot-clause-lacked g c =
    let d = g.Self.Desk in
    on_err c.from_residual.result _
    (stops_first d.link (Ask c.args.ask.now) g.met.Self.Desk.link_same (d.standing c.args.self.now) (d.standing c.look_once.new.self) c.requires.some c.in_err-shot.ensures.lacked)

-- between two looks
pub returns-in_err-push-clause-lacked : goal.returns-in_err-push-clause-lacked
returns-in_err-push-clause-lacked g c =
    let was = c.loop-left.invariant in
    let d = g.Self.Desk in
    let t = c.loop-left-test.ensures in
    on_err c.from_residual-in_err-push.result _
    (stops_between d.link (Ask c.args.ask.now) g.met.Self.Desk.link_same (d.standing c.args.self.now) c.loop-left.earlier.items c.loop-left.shot (reply_view c.loop-left.reply) (d.standing c.loop-left.self)
    was.asking t.1 (let a = t.0 in let b = was.count in omega arith))

-- in a later look
pub returns-in_err-next-clause-lacked : goal.returns-in_err-next-clause-lacked
returns-in_err-next-clause-lacked g c =
    let was = c.loop-left.invariant in
    let d = g.Self.Desk in
    let t = c.loop-left-test.ensures in
    on_err c.from_residual-in_err-next.result _
    (stops_again d.link (Ask c.args.ask.now) (d.standing c.args.self.now) c.loop-left.earlier.items c.loop-left.shot (reply_view c.loop-left.reply) (d.standing c.loop-left.self)
    (d.standing c.look_once-in-loop-left.new.self) was.asking was.goes_on.clock t.1 (let a = t.0 in let b = was.count in omega arith) c.in_err-next.ensures.lacked)

-- or behind the request
pub returns-in_err-catch_up-clause-lacked : goal.returns-in_err-catch_up-clause-lacked
returns-in_err-catch_up-clause-lacked g c =
    let was = c.loop-left.invariant in
    let d = g.Self.Desk in
    on_err c.from_residual-in_err-catch_up.result _
    (stops_behind d.link (Ask c.args.ask.now) (d.standing c.args.self.now) (record { shot = c.loop-left.shot; earlier = c.loop-left.earlier.items; reply = reply_view c.loop-left.reply })
    (d.standing c.loop-left.self) (d.standing c.catch_up.new.self) was.asking was.goes_on.clock was.goes_on.pump (let b = was.count in omega arith)
    (λ t. let none = c.loop-left-test.ensures t in let b = was.count in omega arith) c.in_err-catch_up.ensures.lacked)
