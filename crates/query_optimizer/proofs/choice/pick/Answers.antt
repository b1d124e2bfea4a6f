use Rattle.std.proofs.Common.{◌∙◌, ap, map}
use Rattle.index_definition.specs.ShapeView.{shape_view}
use Rattle.query_optimizer.proofs.Picking.{new_one}
use Rattle.query_optimizer.proofs.choice.pick.Goals as goal

pub returns : goal.returns
returns c =
    new_one c.args.store.now (shape_view c.args.shape.now) c.args.slots.now c.best_of.result (map (λ s. shape_view s.now) c.deref.result.now) (shape_view c.in_ok-widen.field-0)
    c.in_default.is c.best_of.ensures (ap (map (λ s. shape_view s.now)) c.deref.ensures.value ∙ c.in_ok-shapes.ensures) c.in_ok-widen.ensures
