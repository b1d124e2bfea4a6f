use Rattle.std.proofs.Common.{ap, ◌∙◌, sym}
use Rattle.index_definition.specs.ShapeView.{shape_view}
use Rattle.spec_index.specs.Optimiser.{pick}
use Rattle.spec_index.specs.World.{World}
use Rattle.spec_server.specs.Indexing.{one_field}
use Rattle.raven_snapshot.specs.AnsweredView.{answered_view, name_of_choice}
use Rattle.raven_desk.specs.CourseView.{course_view}
use Rattle.raven_desk.proofs.Picked.{made_as}
use Rattle.raven_desk.proofs.course.picked.Goals as goal

pub returns-in-MustMake : goal.returns-in-MustMake
returns-in-MustMake c =
    let W = c.args.world.now in
    let shape = one_field c.args.collection.now c.args.field.now in
    let told = sym (ap answered_view c.in-MustMake.is) ∙ c.in_ok-reply.ensures ∙ ap (λ (V : World). name_of_choice (pick shape V.store V.slots)) (c.of.ensures ∙ c.parts.ensures) in
    made_as course_view c.changed_or_refused.result c.make.result W c.args.now (pick shape W.store W.slots) (shape_view c.in-MustMake.shape) told c.changed_or_refused.ensures c.make.ensures
