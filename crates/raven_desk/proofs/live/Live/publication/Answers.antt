use Rattle.std.proofs.Common.{ap, ◌∙◌, subst, sym}
use Rattle.spec_desk.specs.Lived.{Lived}
use Rattle.spec_index.specs.World.{World}
use Rattle.raven_world.specs.Publishing.{MayPublish}
use Rattle.raven_desk.specs.CourseView.{course_view}
use Rattle.raven_desk.proofs.Publications.{may_publish_in, publication_at}
use Rattle.raven_desk.proofs.live.Live.publication.Goals as goal

pub publication_of-requires : goal.publication_of-requires
publication_of-requires g c =
    subst (λ (V : World). MayPublish V c.args.number c.args.version.value) (sym (c.get.ensures ∙ ap (λ (l : Lived). l.world) c.self.view_is)) c.requires.named

pub returns-clause-course : goal.returns-clause-course
returns-clause-course g c =
    publication_at course_view c.publication_of.result c.args.number c.args.version.value.version c.get.result.now c.args.self.now
    (c.get.ensures ∙ ap (λ (l : Lived). l.world) c.self.view_is) c.publication_of.ensures

pub returns-clause-may : goal.returns-clause-may
returns-clause-may g c =
    may_publish_in course_view c.publication_of.result c.args.number c.args.version.value.version c.self.inside.world (g.K.Keeper.state c.self.inside.keeper) c.self.inside.fronts
    c.get.result.now c.args.self.now c.self.view_is c.get.ensures c.self.invariant c.requires.held c.publication_of.ensures
