use Rattle.std.proofs.Common.{sym, ◌∙◌}
use Rattle.doc_txn.specs.SettingView.{setting_of}
use Rattle.side_by_side.specs.Changes.{change_view}
use Rattle.side_by_side.specs.Standing.{world_of}
use Rattle.side_by_side.proofs.Changing.{switches-to}
use Rattle.side_by_side.proofs.slots.Slots.switched_to.Goals as goal

pub returns : goal.returns
returns c base =
    switches-to (world_of (setting_of base c.args.limits.now) c.args.store.now c.args.self.now) c.args.slot.now c.args.replacement.now (change_view c.in_ok-taken_over.field-0)
    (sym c.has_full_notes.ensures ∙ c.if-has_full_notes.false) (sym c.is_stale.ensures ∙ c.if-is_stale.false)
    (c.in_ok-taken_over.ensures base c.args.limits.now)
