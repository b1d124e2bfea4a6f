use Rattle.std.proofs.Common.{◌≡◌, drop}
use Rattle.spec_index.specs.Cleaning.{etags_reached, least}
use Rattle.side_by_side.proofs.parts.least_reached.Given as goal

abbrev pub invariant-loop-slot : goal.invariant-loop-slot
invariant-loop-slot l = least l.upto (etags_reached (drop l.slot-index l.slots)) ≡ least l.most (etags_reached l.slots)
