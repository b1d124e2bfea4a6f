use Rattle.std.proofs.Common.{sym, ap, ◌∙◌}
use Rattle.std.specs.Prelude.{option_copied}
use Rattle.index_definition.specs.DefinitionView.{definition_view}
use Rattle.side_by_side.specs.Changes.{answer_view}
use Rattle.side_by_side.specs.Standing.{world_of}
use Rattle.side_by_side.proofs.Changing.{at-slot}
use Rattle.side_by_side.proofs.Names.{found-served}
use Rattle.side_by_side.proofs.slots.Slots.define_at.Goals as goal

pub define_beside-requires-clause-served : goal.define_beside-requires-clause-served
define_beside-requires-clause-served c =
    found-served c.args.self.now.slots c.args.definition.value.name c.in-Some.slot.now (sym c.served_by.ensures ∙ ap option_copied c.in-Some.is) c.requires.plain c.requires.short

pub returns-in-Some : goal.returns-in-Some
returns-in-Some c setting S room latest =
    let d = c.args.definition.value in
    at-slot (world_of setting S c.args.self.now) d.name (definition_view d.body) c.in-Some.slot.now (answer_view c.define_beside.result)
    (sym c.served_by.ensures ∙ ap option_copied c.in-Some.is) (c.define_beside.ensures setting S room latest)
