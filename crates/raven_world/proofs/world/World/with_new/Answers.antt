use Rattle.std.proofs.Common.{◌∙◌, ap}
use Rattle.spec_index.specs.World.{serving}
use Rattle.index_definition.specs.DefinitionView.{definition_view}
use Rattle.index_definition.specs.ShapeView.{shape_view}
use Rattle.index_definition.specs.declared.definition.Definition.{Definition}
use Rattle.raven_world.proofs.Steps.{may-make}
use Rattle.raven_world.proofs.world.World.with_new.Goals as goal

pub with_index-requires : goal.with_index-requires
with_index-requires c =
    let W = c.args.self.now in
    let d = c.in_ok-definition.definition.value in
    let named = ap (λ (x : Definition). x.name) c.in_ok-definition.ensures ∙ c.auto_definition.ensures.name in
    let own = ap (λ (x : Definition). definition_view x.body) c.in_ok-definition.ensures ∙ c.auto_definition.ensures.body in
    may-make W (shape_view c.args.shape) d.name (definition_view d.body) (named ∙ c.in_ok-name.ensures.name) (ap (serving W.slots) named ∙ c.in_ok-name.ensures.free) own
