use Rattle.std.proofs.Common.{◌≡◌, ◌++◌, length, map}
use Rattle.spec_index.specs.World.{renamed}
use Rattle.side_by_side.specs.Naming.{AreBeside}
use Rattle.side_by_side.proofs.lists.all_renamed.Given as goal

abbrev pub invariant-loop-left : goal.invariant-loop-left
invariant-loop-left l = (l.new.items ++ map (renamed l.fn.number l.fn.name l.fn.row) l.left ≡ map (renamed l.fn.number l.fn.name l.fn.row) l.fn.slots) × AreBeside l.fn.number l.fn.name l.left

abbrev pub decreases-loop-left : goal.decreases-loop-left
decreases-loop-left l = length l.left
