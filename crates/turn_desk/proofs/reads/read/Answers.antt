use Rattle.std.proofs.Common.{◌∙◌, ap}
use Rattle.spec_server.specs.Courses.{Course}
use Rattle.raven_desk.specs.CourseView.{course_view}
use Rattle.raven_request.specs.RequestView.{request_view}
use Rattle.raven_desk.proofs.Changes.{on_err}
use Rattle.spec_desk.specs.Lived.{Follows}
use Rattle.spec_desk.proofs.Lacking.{lacks_none}
use Rattle.spec_desk.proofs.Later.{Follows-itself}
use Rattle.spec_desk.proofs.Onwards.{on_hold}
use Rattle.turn_desk.specs.Seated.{stands_at}
use Rattle.turn_desk.proofs.Looking.{answered, makes_nothing}
use Rattle.turn_desk.proofs.reads.read.Goals as goal

pub returns-in_err-shot-clause-onward : goal.returns-in_err-shot-clause-onward
returns-in_err-shot-clause-onward g c = let l = c.look.ensures in on_hold c.args.pass.now.seen c.look.new.pass.seen l.0 l.0 l.1 (Follows-itself l.0) l.3.2

pub returns-in_err-course-clause-onward : goal.returns-in_err-course-clause-onward
returns-in_err-course-clause-onward g c = let l = c.look.ensures in on_hold c.args.pass.now.seen c.look.new.pass.seen l.0 l.0 l.1 (Follows-itself l.0) l.3.2

pub returns-clause-looked : goal.returns-clause-looked
returns-clause-looked g c =
    let l = c.in_ok-shot.ensures in
    let at = stands_at (g.C.Clock.moment c.args.clock.now) in
    answered c.now-now.result (request_view c.args.request) l.0 c.world.result.now c.in_ok-shot.shot (course_view c.in_ok-course.course) (at c.args.pass.now) (at c.look.new.pass) (record { below = c.now-now.ensures.below; still = c.now-now.ensures.still }) l.1 l.2 c.world.ensures.world c.world.ensures.sound c.in_ok-course.ensures
    (ap (λ (o : Course). o.changes) c.in_ok-course.ensures ∙ makes_nothing c.world.result.now c.now-now.result (request_view c.args.request) c.requires.reads) l.3.2 l.3.3

pub returns-clause-onward : goal.returns-clause-onward
returns-clause-onward g c = let l = c.look.ensures in on_hold c.args.pass.now.seen c.look.new.pass.seen l.0 l.0 l.1 (Follows-itself l.0) l.3.2

pub returns-in_err-shot-clause-lacked : goal.returns-in_err-shot-clause-lacked
returns-in_err-shot-clause-lacked g c =
    let l = c.look.ensures in
    let at = stands_at (g.C.Clock.moment c.args.clock.now) in
    on_err c.from_residual.result _ (lacks_none Follows (at c.args.pass.now) (request_view c.args.request) l.0 (at c.look.new.pass) l.1 l.3.2 l.3.3)

pub returns-in_err-course-clause-lacked : goal.returns-in_err-course-clause-lacked
returns-in_err-course-clause-lacked g c =
    let l = c.look.ensures in
    let at = stands_at (g.C.Clock.moment c.args.clock.now) in
    on_err c.from_residual-in_err-course.result _ (lacks_none Follows (at c.args.pass.now) (request_view c.args.request) l.0 (at c.look.new.pass) l.1 l.3.2 l.3.3)
