use Rattle.std.proofs.Common.{sym, ap, ◌∙◌}
use Rattle.std.specs.Prelude.{option_copied}
use Rattle.side_by_side.specs.Changes.{change_view}
use Rattle.side_by_side.specs.Standing.{world_of}
use Rattle.side_by_side.proofs.Changing.{removes}
use Rattle.side_by_side.proofs.slots.Slots.remove.Goals as goal

pub returns : goal.returns
returns c setting S =
    removes (world_of setting S c.args.self.now) c.args.name.now c.in-Some.slot.now (change_view c.in_ok-taken_out.field-0)
    (sym c.serving.ensures ∙ ap option_copied c.in-Some.is) (c.in_ok-taken_out.ensures setting S)
