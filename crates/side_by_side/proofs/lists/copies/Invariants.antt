use Rattle.std.proofs.Common.{◌≡◌, take}
use Rattle.side_by_side.proofs.lists.copies.Given as goal

abbrev pub invariant-loop-slot : goal.invariant-loop-slot
invariant-loop-slot l = l.new.items ≡ take l.slot-index l.slots
