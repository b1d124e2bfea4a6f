use Rattle.std.proofs.Common.{◌≡◌, ◌++◌, length, map}
use Rattle.spec_index.specs.World.{with_version}
use Rattle.side_by_side.specs.Naming.{AreNamedAs}
use Rattle.side_by_side.proofs.lists.all_with_version.Given as goal

abbrev pub invariant-loop-left : goal.invariant-loop-left
invariant-loop-left l = (l.new.items ++ map (with_version l.fn.number l.fn.version.value.version) l.left ≡ map (with_version l.fn.number l.fn.version.value.version) l.fn.slots) × AreNamedAs l.fn.number l.fn.version.value.name l.left

abbrev pub decreases-loop-left : goal.decreases-loop-left
decreases-loop-left l = length l.left
