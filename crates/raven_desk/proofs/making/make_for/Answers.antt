use Rattle.std.proofs.Common.{◌≡◌}
use Rattle.std.proofs.lemmas.Result.{err_from_is_err_and}
use Rattle.spec_server.specs.Courses.{Course}
use Rattle.spec_server.specs.Asking.{MustMake}
use Rattle.spec_server.specs.Indexing.{ask_course}
use Rattle.index_definition.specs.ShapeView.{shape_view}
use Rattle.raven_world.specs.WorldView.{answering}
use Rattle.raven_desk.proofs.Picked.{not_made}
use Rattle.raven_desk.proofs.making.make_for.Goals as goal

pub returns-in_err-left-clause-course : goal.returns-in_err-left-clause-course
returns-in_err-left-clause-course g c =
    let p = err_from_is_err_and c.from_residual.result c.from_residual.ensures.1 in
    let ask = c.args.ask.now in
    rw (p.1, p.2)
    (not_made (answering ask) c.in_err-left.field-0.0 (λ (course : Course). course ≡ ask_course c.args.world.now c.args.now ask (MustMake (shape_view c.args.shape))) (c.in_err-left.ensures.asked ask))
