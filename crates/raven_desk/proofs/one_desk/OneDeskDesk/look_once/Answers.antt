use Rattle.std.proofs.Common.{◌≡◌, inl, subst}
use Rattle.std.specs.Prelude.{IfSome}
use Rattle.spec_server.specs.Requests.{Ask}
use Rattle.spec_desk.proofs.Lacking.{lacks_step}
use Rattle.raven_desk.proofs.Changes.{on_err}
use Rattle.raven_desk.proofs.Standings.{goes_on, lacks_here, lacks_hold}
use Rattle.raven_desk.proofs.one_desk.OneDeskDesk.look_once.Goals as goal

pub returns-in_err-reply-clause-goes_on : goal.returns-in_err-reply-clause-goes_on
returns-in_err-reply-clause-goes_on g c = goes_on _ c.args.self.now c.ask.new.self c.self.view_is c.ask.ensures.later

pub returns-clause-goes_on : goal.returns-clause-goes_on
returns-clause-goes_on g c = goes_on _ c.args.self.now c.ask.new.self c.self.view_is c.ask.ensures.later

-- memory ran out
pub returns-in_err-shot-clause-lacked : goal.returns-in_err-shot-clause-lacked
returns-in_err-shot-clause-lacked g c = on_err c.from_residual.result _ (lacks_here c.args.self.now (Ask c.args.ask.now))

pub returns-in_err-reply-clause-lacked : goal.returns-in_err-reply-clause-lacked
returns-in_err-reply-clause-lacked g c =
    let live = c.self.inside.live in
    let moment = g.C.Clock.moment c.self.inside.clock.value in
    let y = c.ask.new.self in
    on_err c.from_residual-in_err-reply.result _
    (lacks_hold _ c.args.self.now (Ask c.args.ask.now) y c.self.view_is
    (lacks_step moment c.now-now.result (Ask c.args.ask.now) live y
    (record { below = c.now-now.ensures.below; still = subst (λ (k : g.row.C.Denot). IfSome (g.C.Clock.moment k) (λ m. c.now-now.result ≡ m)) c.deref.ensures c.now-now.ensures.still })
    (inl c.in_err-reply.ensures.err) c.ask.ensures.fronts) c.ask.ensures.later)
