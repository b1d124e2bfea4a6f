use Rattle.std.proofs.Common.{◌≡◌, ◌++◌, drop}
use Rattle.spec_index.specs.World.{without}
use Rattle.side_by_side.proofs.lists.without.Given as goal

abbrev pub invariant-loop-slot : goal.invariant-loop-slot
invariant-loop-slot l = l.new.items ++ without l.number (drop l.slot-index l.slots) ≡ without l.number l.slots
