use Rattle.std.proofs.Common.{ap, ◌∙◌}
use Rattle.spec_server.specs.Requests.{Ask}
use Rattle.spec_desk.specs.Lived.{Lived}
use Rattle.raven_desk.specs.CourseView.{course_view}
use Rattle.raven_desk.proofs.Changes.{course_at, may_make_in}
use Rattle.raven_desk.proofs.live.Live.query_course.Goals as goal

pub returns-clause-course : goal.returns-clause-course
returns-clause-course g c =
    course_at course_view c.course_of_query.result c.args.now (Ask c.args.ask.now) c.get.result.now c.args.self.now (c.get.ensures ∙ ap (λ (l : Lived). l.world) c.self.view_is)
    c.course_of_query.ensures

pub returns-clause-may : goal.returns-clause-may
returns-clause-may g c =
    may_make_in course_view c.course_of_query.result c.args.now (Ask c.args.ask.now) c.self.inside.world (g.K.Keeper.state c.self.inside.keeper) c.self.inside.fronts c.get.result.now c.args.self.now
    c.self.view_is c.get.ensures c.self.invariant c.requires c.course_of_query.ensures
