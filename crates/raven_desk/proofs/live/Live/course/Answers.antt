use Rattle.raven_desk.specs.CourseView.{course_view}
use Rattle.raven_desk.proofs.Changes.{may_make_in}
use Rattle.raven_request.specs.RequestView.{request_view}
use Rattle.raven_desk.proofs.live.Live.course.Goals as goal

pub returns-clause-may : goal.returns-clause-may
returns-clause-may g c =
    may_make_in course_view c.course_of.result c.args.now (request_view c.args.request) c.self.inside.world (g.K.Keeper.state c.self.inside.keeper) c.self.inside.fronts c.get.result.now c.args.self.now
    c.self.view_is c.get.ensures c.self.invariant c.requires c.course_of.ensures
