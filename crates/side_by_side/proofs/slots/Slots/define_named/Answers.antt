use Rattle.std.proofs.Common.{sym, ◌∙◌}
use Rattle.index_definition.specs.DefinitionView.{definition_view}
use Rattle.side_by_side.specs.Changes.{answer_view}
use Rattle.side_by_side.specs.Standing.{world_of}
use Rattle.side_by_side.proofs.Changing.{defines-at}
use Rattle.side_by_side.proofs.slots.Slots.define_named.Goals as goal

pub returns : goal.returns
returns c setting S room latest =
    let d = c.args.definition.value in
    defines-at (world_of setting S c.args.self.now) d.name (definition_view d.body) (answer_view c.define_at.result)
    (sym c.has_reserved_name.ensures ∙ c.if-has_reserved_name.false) (sym c.has_long_name.ensures ∙ c.if-has_long_name.false) (c.define_at.ensures setting S room latest)
