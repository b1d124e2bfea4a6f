use Rattle.std.proofs.Common.{sym, ◌∙◌}
use Rattle.index_definition.specs.DefinitionView.{definition_view}
use Rattle.side_by_side.specs.Changes.{answer_view}
use Rattle.side_by_side.specs.Standing.{world_of}
use Rattle.side_by_side.proofs.Changing.{newly}
use Rattle.side_by_side.proofs.slots.Slots.define_alone.Goals as goal

pub returns : goal.returns
returns c setting S room latest =
    newly (world_of setting S c.args.self.now) (definition_view c.args.definition.value.body) c.args.slot.now c.in_ok-name.name (answer_view c.added_if_room.result)
    (sym c.defines.ensures ∙ c.if-defines.false) c.in_ok-name.ensures (c.added_if_room.ensures setting S room latest)
