use Rattle.std.proofs.Common.{inl, inr, refl, subst}
use Rattle.spec_server.specs.Courses.{Course}
use Rattle.spec_desk.specs.Stepped.{IsMadeInPart}
use Rattle.spec_desk.proofs.Parts.{alone}
use Rattle.spec_desk.proofs.Few.{few}
use Rattle.spec_desk.proofs.Later.{Follows-itself}
use Rattle.raven_desk.specs.CourseView.{course_view}
use Rattle.raven_desk.proofs.Changes.{if_err, on_err, steps_as}
use Rattle.raven_request.specs.RequestView.{request_view}
use Rattle.raven_reply.specs.ReplyView.{reply_view}
use Rattle.raven_desk.proofs.live.Live.step.Goals as goal

pub returns-in_err-course-clause-later : goal.returns-in_err-course-clause-later
returns-in_err-course-clause-later g c = Follows-itself c.args.self.now

pub returns-clause-stepped : goal.returns-clause-stepped
returns-clause-stepped g c =
    steps_as reply_view c.finish.result c.args.now (request_view c.args.request) (course_view c.in_ok-course.course) c.args.self.now c.finish.new.self c.in_ok-course.ensures.course
    c.finish.ensures.made

pub returns-clause-lacks : goal.returns-clause-lacks
returns-clause-lacks g c =
    if_err c.finish.result _ _
    (λ part. inr (subst (λ (k : Course). IsMadeInPart k.changes c.args.self.now c.finish.new.self) c.in_ok-course.ensures.course part))
    c.finish.ensures.lacks

pub returns-clause-alone : goal.returns-clause-alone
returns-clause-alone g c =
    if_err c.finish.result _ _
    (λ part other. alone (course_view c.in_ok-course.course).changes c.args.self.now c.finish.new.self
    (few (course_view c.in_ok-course.course) c.args.self.now.world c.args.now (request_view c.args.request) other c.in_ok-course.ensures.course) part)
    c.finish.ensures.lacks

pub returns-in_err-course-clause-lacks : goal.returns-in_err-course-clause-lacks
returns-in_err-course-clause-lacks g c = on_err c.from_residual.result _ (inl (refl, refl))
