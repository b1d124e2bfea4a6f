use Rattle.std.proofs.Common.{◌≡◌, drop}
use Rattle.spec_index.specs.World.{serving}
use Rattle.side_by_side.proofs.lists.serving_in.Given as goal

abbrev pub invariant-loop-slot : goal.invariant-loop-slot
invariant-loop-slot l = serving (drop l.slot-index l.slots) l.name ≡ serving l.slots l.name
