use Rattle.std.proofs.Common.{◌≡◌, drop}
use Rattle.spec_index.specs.World.{numbered}
use Rattle.side_by_side.proofs.lists.numbered_in.Given as goal

abbrev pub invariant-loop-slot : goal.invariant-loop-slot
invariant-loop-slot l = numbered (drop l.slot-index l.slots) l.number ≡ numbered l.slots l.number
