use Rattle.std.proofs.Common.{◌+◌, ◌∷◌, [], ap, ◌∙◌, subst}
use Rattle.std.proofs.lemmas.Result.{err_from_is_err_and}
use Rattle.raven_desk.specs.CourseView.{course_view}
use Rattle.raven_desk.specs.SettledView.{settled_view}
use Rattle.raven_desk.specs.declared.settling.Settled as program
use Rattle.raven_request.specs.RequestView.{request_view}
use Rattle.spec_desk.specs.Keepers.{MayGive}
use Rattle.spec_desk.specs.Stepped.{Settles}
use Rattle.spec_measure.specs.Summary.{one_if}
use Rattle.raven_measure.specs.Doing.{Does, State, Stops}
use Rattle.raven_measure.specs.declared.making.Stop.TheVariants.{Kept, NoMemory as OutOfMemory}
use Rattle.raven_measure.proofs.Doing.{stops_at_once, stops_one}
use Rattle.raven_measure.proofs.Settled.{as_one, does_settled, not_made, not_taken}
use Rattle.raven_measure.proofs.making.Measured.make.Goals as goal

pub returns-in_err-reply-clause-stopped : goal.returns-in_err-reply-clause-stopped
returns-in_err-reply-clause-stopped g c =
    let p = err_from_is_err_and c.from_residual.result c.from_residual.ensures.1 in
    rw (p.1, p.2) (stops_at_once (g.C.Clock.moment c.args.clock.now) c.args.self.now (request_view c.args.request) [])

pub returns-in_err-settle-clause-stopped : goal.returns-in_err-settle-clause-stopped
returns-in_err-settle-clause-stopped g c =
    let p = err_from_is_err_and c.from_residual-in_err-settle.result c.from_residual-in_err-settle.ensures.1 in
    let clock = g.C.Clock.moment c.args.clock.now in
    let x = c.self.inside.live in
    let n = c.self.inside.batches in
    let q = request_view c.args.request in
    let same = not_made x c.settle.new.self c.now.result q (course_view c.in_ok-reply.field-0) c.requires.formed c.in_ok-reply.ensures.course c.in_err-settle.ensures.lacks in
    rw (p.1, p.2) (subst (λ (s : State). Stops clock s (q ∷ []) (record { live = c.settle.new.self; moved = n }) OutOfMemory) c.self.view_is
    (stops_one clock (record { live = x; moved = n }) (record { live = c.settle.new.self; moved = n }) q OutOfMemory same.0 same.1 (λ kept. absurd cc)))

pub returns-clause-stopped : goal.returns-clause-stopped
returns-clause-stopped g c =
    let clock = g.C.Clock.moment c.args.clock.now in
    let x = c.self.inside.live in
    let y = c.settle.new.self in
    let n = c.self.inside.batches in
    let q = request_view c.args.request in
    let course = course_view c.in_ok-reply.field-0 in
    let settled = subst (λ (s : program.Settled). Settles course.changes x (settled_view s) y) c.in-Stopped.is c.in_ok-settle.ensures.settled in
    let same = not_made x y c.now.result q course c.requires.formed c.in_ok-reply.ensures.course (c.in_ok-settle.ensures.halted (rw c.in-Stopped.is tt)) in
    let given : MayGive clock c.now.result = record { below = c.now.ensures.below; still = c.now.ensures.still } in
    subst (λ (s : State). Stops clock s (q ∷ []) (record { live = y; moved = n }) Kept) c.self.view_is
    (stops_one clock (record { live = x; moved = n }) (record { live = y; moved = n }) q Kept same.0 same.1
    (λ kept. not_taken clock x y c.now.result q course c.in-Stopped.before c.in-Stopped.after given c.in_ok-reply.ensures.course settled))

pub returns-in-All-clause-done : goal.returns-in-All-clause-done
returns-in-All-clause-done g c =
    let clock = g.C.Clock.moment c.args.clock.now in
    let x = c.self.inside.live in
    let y = c.settle.new.self in
    let n = c.self.inside.batches in
    let q = request_view c.args.request in
    let course = course_view c.in_ok-reply.field-0 in
    let settled = subst (λ (s : program.Settled). Settles course.changes x (settled_view s) y) c.in-All.is c.in_ok-settle.ensures.settled in
    let given : MayGive clock c.now.result = record { below = c.now.ensures.below; still = c.now.ensures.still } in
    subst (λ (s : State). Does clock s (q ∷ []) (record { live = y; moved = n + c.from.result })) c.self.view_is
    (does_settled clock x y n (n + c.from.result) c.now.result q course given c.in_ok-reply.ensures.course settled c.in_ok-settle.ensures.later
    (ap (λ m. n + m) (c.from.ensures ∙ as_one c.is_moving.result) ∙ ap (λ b. n + one_if b) c.is_moving.ensures))
