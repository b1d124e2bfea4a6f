use Rattle.std.proofs.Common.{subst, sym}
use Rattle.std.specs.Prelude.{option_copied}
use Rattle.spec_index.specs.World.{NumbersRise}
use Rattle.slot_batches.proofs.Counting.{rise_after}
use Rattle.slot_batches.proofs.batches.bring_on.Goals as goal

pub with_list-requires : goal.with_list-requires
with_list-requires g c =
    subst (λ xs. NumbersRise 0 xs) (sym c.in_ok-new.ensures.slots) (rise_after (option_copied c.args.index) c.args.store.now c.args.max 0 c.list.result.now c.list.ensures.rising)
