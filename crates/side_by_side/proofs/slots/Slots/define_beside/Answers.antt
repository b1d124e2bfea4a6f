use Rattle.std.proofs.Common.{sym, ap, ◌∙◌}
use Rattle.std.specs.Prelude.{option_copied}
use Rattle.spec_data.specs.Faults.{replacement_of}
use Rattle.spec_index.specs.World.{serving}
use Rattle.index_definition.specs.DefinitionView.{definition_view}
use Rattle.side_by_side.specs.Changes.{answer_view, change_view}
use Rattle.side_by_side.specs.Standing.{world_of}
use Rattle.side_by_side.proofs.Changing.{alone, over}
use Rattle.side_by_side.proofs.slots.Slots.define_beside.Goals as goal

pub returns-in_ok-define_over-in-Some : goal.returns-in_ok-define_over-in-Some
returns-in_ok-define_over-in-Some c setting S room latest =
    let s = c.args.slot.now in
    over (world_of setting S c.args.self.now) (definition_view c.args.definition.value.body) s c.in-Some.replacement.now (serving c.args.self.now.slots (replacement_of s.name))
    (change_view c.in_ok-define_over-in-Some.field-0) (sym c.in_ok-replacement.ensures.found ∙ ap option_copied c.in-Some.is) (c.in_ok-define_over-in-Some.ensures setting S latest)

pub returns-in-None : goal.returns-in-None
returns-in-None c setting S room latest =
    let s = c.args.slot.now in
    alone (world_of setting S c.args.self.now) (definition_view c.args.definition.value.body) s (serving c.args.self.now.slots (replacement_of s.name)) (answer_view c.define_alone.result)
    (sym c.in_ok-replacement.ensures.found ∙ ap option_copied c.in-None.is) (c.define_alone.ensures setting S room latest)
