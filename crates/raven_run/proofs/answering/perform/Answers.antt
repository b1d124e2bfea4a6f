use Rattle.raven_request.specs.RequestView.{request_view}
use Rattle.raven_desk.specs.CourseView.{course_view}
use Rattle.spec_desk.proofs.Later.{Follows-itself}
use Rattle.spec_server.specs.Courses.{Course}
use Rattle.spec_desk.specs.Stepped.{IsMadeInPart, Stays}
use Rattle.std.proofs.Common.{◌⊎◌, subst}
use Rattle.raven_run.proofs.Performed.{if_err, if_ok, performed}
use Rattle.raven_run.proofs.answering.perform.Goals as goal

pub returns-clause-performed : goal.returns-clause-performed
returns-clause-performed g c =
    if_ok c.settled.result _ _
    (λ text h. performed c.args.now (request_view c.args.request) c.args.live.now c.settled.new.live (course_view c.in_ok-course.course) text.items c.in_ok-course.ensures.course h)
    c.settled.ensures.settled

pub returns-clause-lacks : goal.returns-clause-lacks
returns-clause-lacks g c =
    if_err c.settled.result _ _
    (λ short. subst (λ (k : Course). Stays c.args.live.now c.settled.new.live ⊎ IsMadeInPart k.changes c.args.live.now c.settled.new.live) c.in_ok-course.ensures.course short)
    c.settled.ensures.lacks

pub returns-in_err-course-clause-later : goal.returns-in_err-course-clause-later
returns-in_err-course-clause-later g c = Follows-itself c.args.live.now
