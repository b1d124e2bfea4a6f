use Rattle.std.proofs.Common.{◌≡◌, refl, ap, subst, arith, true, false, ◌==◌}
use Rattle.std.specs.Prelude.{IfSome, None}
use Rattle.std.proofs.lemmas.Bool.Decides.{nat_tests}
use Rattle.raven_reply.specs.ReplyView.{reply_view}
use Rattle.raven_desk.specs.Desks.{Alone, alone as alone_at, stands_alone}
use Rattle.spec_server.specs.Requests.{Pump, Tidy}
use Rattle.spec_desk.specs.Lacking.{StopsCatchingUp}
use Rattle.spec_desk.specs.Receipts.{HasCaughtUp}
use Rattle.spec_desk.proofs.Lacking.{alone_stops, lacks_step, stops_in_batch, stops_in_tidy}
use Rattle.spec_desk.proofs.Later.{Follows-then}
use Rattle.spec_desk.proofs.Onwards.{alone, brings, goes_on_itself, rests}
use Rattle.raven_desk.proofs.Changes.{on_err}
use Rattle.raven_desk.proofs.Standings.{goes_on}
use Rattle.raven_desk.proofs.one_desk.OneDeskDesk.catch_up.Goals as goal

pub returns-then-self-eq0-clause-went : goal.returns-then-self-eq0-clause-went
returns-then-self-eq0-clause-went g c =
    let d = c.args.self.now in
    let none : (d.pump == 0) ≡ true = (let p = ap (λ (d : Alone). d.pump) c.self.view_is in let z = c.if-self-eq0.true in grind (arith, nat_tests)) in
    λ x e. alone d.live x (stands_alone d) (stands_alone d) e (rests d.live (stands_alone d) (stands_alone d) none refl refl)

pub returns-then-self-eq0-clause-goes_on : goal.returns-then-self-eq0-clause-goes_on
returns-then-self-eq0-clause-goes_on g c = goes_on_itself (stands_alone c.args.self.now)

pub returns-in_err-step-clause-goes_on : goal.returns-in_err-step-clause-goes_on
returns-in_err-step-clause-goes_on g c = goes_on _ c.args.self.now c.step.new.self c.self.view_is c.step.ensures.later

pub returns-in_err-step-2-clause-goes_on : goal.returns-in_err-step-2-clause-goes_on
returns-in_err-step-2-clause-goes_on g c =
    goes_on _ c.args.self.now c.step-2.new.self c.self.view_is (Follows-then c.self.inside.live c.step.new.self c.step-2.new.self c.step.ensures.later c.step-2.ensures.later)

pub returns-clause-went : goal.returns-clause-went
returns-clause-went g c =
    let d = c.args.self.now in
    let inside = alone_at c.self.inside.live (g.C.Clock.moment c.self.inside.clock.value) c.self.inside.pump in
    let z = c.step.new.self in
    let y = c.step-2.new.self in
    let end = stands_alone (alone_at y inside.moment inside.pump) in
    let some : (c.self.inside.pump == 0) ≡ false = (let z = c.if-self-eq0.false in grind (arith, nat_tests)) in
    let whole = brings inside.live z y (stands_alone inside) end c.now-now.result c.now-later.result (reply_view c.in_ok-step.field-0) (reply_view c.in_ok-step-2.field-0) some
    (record { below = c.now-now.ensures.below; still = subst (λ (k : g.row.C.Denot). IfSome (g.C.Clock.moment k) (λ m. c.now-now.result ≡ m)) c.deref.ensures c.now-now.ensures.still })
    c.in_ok-step.ensures.stepped c.step.ensures.later
    (record { below = c.now-later.ensures.below; still = subst (λ (k : g.row.C.Denot). IfSome (g.C.Clock.moment k) (λ m. c.now-later.result ≡ m)) c.deref-2.ensures c.now-later.ensures.still })
    c.in_ok-step-2.ensures.stepped c.step-2.ensures.later refl refl refl in
    λ x e. alone d.live x (stands_alone d) end e (subst (λ (d : Alone). HasCaughtUp d.live (stands_alone d) end) c.self.view_is whole)

pub returns-clause-goes_on : goal.returns-clause-goes_on
returns-clause-goes_on g c =
    goes_on _ c.args.self.now c.step-2.new.self c.self.view_is (Follows-then c.self.inside.live c.step.new.self c.step-2.new.self c.step.ensures.later c.step-2.ensures.later)

-- memory ran out in the batches
pub returns-in_err-step-clause-lacked : goal.returns-in_err-step-clause-lacked
returns-in_err-step-clause-lacked g c =
    let d = c.args.self.now in
    let inside = alone_at c.self.inside.live (g.C.Clock.moment c.self.inside.clock.value) c.self.inside.pump in
    let z = c.step.new.self in
    let end = stands_alone (alone_at z inside.moment inside.pump) in
    let some : (c.self.inside.pump == 0) ≡ false = (let z = c.if-self-eq0.false in grind (arith, nat_tests)) in
    let whole = stops_in_batch inside.live z (stands_alone inside) end some
    (lacks_step inside.moment c.now-now.result (Pump inside.pump None) inside.live z
    (record { below = c.now-now.ensures.below; still = subst (λ (k : g.row.C.Denot). IfSome (g.C.Clock.moment k) (λ m. c.now-now.result ≡ m)) c.deref.ensures c.now-now.ensures.still })
    c.in_err-step.ensures.lacks c.step.ensures.fronts) c.step.ensures.later refl refl refl in
    on_err c.from_residual.result _ (λ x e. alone_stops d.live x (stands_alone d) end e (subst (λ (d : Alone). StopsCatchingUp d.live (stands_alone d) end) c.self.view_is whole))

-- or in the Tidy
pub returns-in_err-step-2-clause-lacked : goal.returns-in_err-step-2-clause-lacked
returns-in_err-step-2-clause-lacked g c =
    let d = c.args.self.now in
    let inside = alone_at c.self.inside.live (g.C.Clock.moment c.self.inside.clock.value) c.self.inside.pump in
    let z = c.step.new.self in
    let y = c.step-2.new.self in
    let end = stands_alone (alone_at y inside.moment inside.pump) in
    let some : (c.self.inside.pump == 0) ≡ false = (let z = c.if-self-eq0.false in grind (arith, nat_tests)) in
    let whole = stops_in_tidy inside.live z y (stands_alone inside) end c.now-now.result (reply_view c.in_ok-step.field-0) some
    (record { below = c.now-now.ensures.below; still = subst (λ (k : g.row.C.Denot). IfSome (g.C.Clock.moment k) (λ m. c.now-now.result ≡ m)) c.deref.ensures c.now-now.ensures.still })
    c.in_ok-step.ensures.stepped c.step.ensures.later
    (lacks_step inside.moment c.now-later.result Tidy z y
    (record { below = c.now-later.ensures.below; still = subst (λ (k : g.row.C.Denot). IfSome (g.C.Clock.moment k) (λ m. c.now-later.result ≡ m)) c.deref-2.ensures c.now-later.ensures.still })
    c.in_err-step-2.ensures.lacks c.step-2.ensures.fronts) c.step-2.ensures.later refl refl refl in
    on_err c.from_residual-in_err-step-2.result _ (λ x e. alone_stops d.live x (stands_alone d) end e (subst (λ (d : Alone). StopsCatchingUp d.live (stands_alone d) end) c.self.view_is whole))
