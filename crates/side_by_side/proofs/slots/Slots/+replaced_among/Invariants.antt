use Rattle.std.proofs.Common.{length}
use Rattle.side_by_side.proofs.slots.Slots.+replaced_among.Given as goal

abbrev pub decreases-replaced_among : goal.decreases-replaced_among
decreases-replaced_among l = length l.slots.now
