use Rattle.std.proofs.Common.{◌≡◌, ◌↔◌, length}
use Rattle.index_tree.proofs.same.same_lists.Given as goal

-- what is left is the same if all is
abbrev pub invariant-loop-left : goal.invariant-loop-left
invariant-loop-left g l = (l.left ≡ l.right) ↔ (l.a ≡ l.b)

abbrev pub decreases-loop-left : goal.decreases-loop-left
decreases-loop-left g l = length l.left
