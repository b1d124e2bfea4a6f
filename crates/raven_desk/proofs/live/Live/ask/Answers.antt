use Rattle.std.proofs.Common.{refl}
use Rattle.spec_desk.proofs.Few.{few}
use Rattle.spec_desk.proofs.Parts.{alone}
use Rattle.spec_desk.proofs.Later.{Follows-itself}
use Rattle.spec_server.specs.Requests.{Ask}
use Rattle.raven_desk.specs.CourseView.{course_view}
use Rattle.raven_desk.proofs.Changes.{if_err, steps_as}
use Rattle.raven_reply.specs.ReplyView.{reply_view}
use Rattle.raven_desk.proofs.live.Live.ask.Goals as goal

pub returns-in_err-course-clause-later : goal.returns-in_err-course-clause-later
returns-in_err-course-clause-later g c = Follows-itself c.args.self.now

pub returns-clause-stepped : goal.returns-clause-stepped
returns-clause-stepped g c =
    steps_as reply_view c.finish.result c.args.now (Ask c.args.ask.now) (course_view c.in_ok-course.course) c.args.self.now c.finish.new.self c.in_ok-course.ensures.course c.finish.ensures.made

pub returns-clause-err : goal.returns-clause-err
returns-clause-err g c =
    if_err c.finish.result _ _
    (λ part. alone (course_view c.in_ok-course.course).changes c.args.self.now c.finish.new.self
    (few (course_view c.in_ok-course.course) c.args.self.now.world c.args.now (Ask c.args.ask.now) refl c.in_ok-course.ensures.course) part)
    c.finish.ensures.lacks
