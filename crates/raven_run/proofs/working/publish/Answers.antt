use Rattle.std.proofs.Common.{List, refl, subst, sym}
use Rattle.spec_index.specs.World.{World}
use Rattle.raven_desk.specs.CourseView.{course_view}
use Rattle.raven_run.specs.Holding.{MayAllWait, NamedBatch}
use Rattle.raven_run.proofs.Performed.{if_ok, on_err}
use Rattle.raven_run.proofs.Waiting.{held-waits, is_held, may_publish, wait-later, wait-others}
use Rattle.raven_run.proofs.Worked.{publishes-as, publishes-nothing, publishes-short}
use Rattle.raven_run.proofs.working.publish.Goals as goal

pub returns-in_default-clause-handled : goal.returns-in_default-clause-handled
returns-in_default-clause-handled g c = λ now.
    if_ok c.printed.result _ _
    (λ text t. publishes-nothing c.args.live.now.keeper now c.args.worker c.args.live.now.world c.args.workers.now text.items (sym c.in_default.ensures) t)
    c.printed.ensures

pub publication-requires-clause-named : goal.publication-requires-clause-named
publication-requires-clause-named g c =
    let W = c.args.live.now.world in
    let b = c.in-Some.held.now in
    may_publish W b c.in_ok-number.number c.in_ok-number.version.value (held-waits W c.args.worker c.args.workers.now b c.requires.waits (sym c.in-Some.ensures))
    c.in_ok-number.ensures.number c.in_ok-number.ensures.version

pub publication-requires-clause-held : goal.publication-requires-clause-held
publication-requires-clause-held g c =
    let W = c.args.live.now.world in
    let b = c.in-Some.held.now in
    is_held W b c.in_ok-number.number c.in_ok-number.version.value (held-waits W c.args.worker c.args.workers.now b c.requires.waits (sym c.in-Some.ensures))
    c.in_ok-number.ensures.number c.in_ok-number.ensures.version

pub returns-in_err-text-clause-kept : goal.returns-in_err-text-clause-kept
returns-in_err-text-clause-kept g c =
    let stays = publishes-short c.args.live.now c.settled.new.live c.in_ok-number.number c.in_ok-number.version.value (course_view c.in_ok-course.course) c.in_ok-course.ensures.course
    c.in_err-text.ensures.lacks in
    on_err c.from_residual-in_err-text.result _ (refl, stays.0, stays.1)

pub returns-in_err-text-clause-waits : goal.returns-in_err-text-clause-waits
returns-in_err-text-clause-waits g c =
    let stays = publishes-short c.args.live.now c.settled.new.live c.in_ok-number.number c.in_ok-number.version.value (course_view c.in_ok-course.course) c.in_ok-course.ensures.course
    c.in_err-text.ensures.lacks in
    subst (λ (V : World). MayAllWait V c.args.workers.now) (sym stays.0) c.requires.waits

pub returns-clause-handled : goal.returns-clause-handled
returns-clause-handled g c = λ now.
    publishes-as now c.args.worker c.args.live.now c.settled.new.live c.args.workers.now c.in_ok-others.others c.in-Some.held.now c.in_ok-number.number c.in_ok-number.version.value
    (course_view c.in_ok-course.course) c.in_ok-text.text.items (sym c.in-Some.ensures) c.in_ok-number.ensures.number c.in_ok-number.ensures.version c.in_ok-course.ensures.course
    c.in_ok-text.ensures.settled c.in_ok-others.ensures

pub returns-clause-waits : goal.returns-clause-waits
returns-clause-waits g c =
    let V = c.settled.new.live.world in
    subst (λ (l : List NamedBatch). MayAllWait V l) (sym c.in_ok-others.ensures)
    (wait-others V c.args.worker c.args.workers.now (wait-later c.args.live.now.world V c.args.workers.now c.requires.waits c.settled.ensures.later.world))
