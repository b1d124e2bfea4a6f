use Rattle.index_definition.specs.DefinitionView.{definition_view}
use Rattle.side_by_side.specs.Changes.{answer_view}
use Rattle.side_by_side.specs.Standing.{world_of}
use Rattle.side_by_side.proofs.Changing.{renamed-gives}
use Rattle.side_by_side.proofs.slots.Slots.add.Goals as goal

pub returns : goal.returns
returns c setting S room latest =
    renamed-gives (world_of setting S c.args.self.now) c.in_ok-name.name c.args.definition.value.name (definition_view c.args.definition.value.body) (answer_view c.added_if_room.result)
    c.in_ok-name.ensures (c.added_if_room.ensures setting S room latest)
