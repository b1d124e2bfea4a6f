use Rattle.std.proofs.Common.{sym, ap, ◌∙◌}
use Rattle.std.specs.Prelude.{option_copied}
use Rattle.doc_txn.specs.SettingView.{setting_of}
use Rattle.side_by_side.specs.Changes.{answer_view}
use Rattle.side_by_side.specs.Standing.{world_of}
use Rattle.side_by_side.proofs.Changing.{switches}
use Rattle.side_by_side.proofs.slots.Slots.switch.Goals as goal

pub returns : goal.returns
returns c base =
    switches (world_of (setting_of base c.args.limits.now) c.args.store.now c.args.self.now) c.args.name.now c.in-Some.slot.now c.in-Some-2.replacement.now
    (answer_view c.switched_to.result) (sym c.serving.ensures ∙ ap option_copied c.in-Some.is) (sym c.in_ok-replacement.ensures.found ∙ ap option_copied c.in-Some-2.is)
    (c.switched_to.ensures base)
