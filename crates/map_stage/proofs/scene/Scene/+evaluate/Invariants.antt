use Rattle.std.proofs.Common.{◌+◌, ◌*◌, max}
use Rattle.index_tree.specs.Trees.{height}
use Rattle.map_stage.proofs.scene.Scene.+evaluate.Given as goal

abbrev pub decreases-evaluate : goal.decreases-evaluate
decreases-evaluate g l = 3 * height l.expr.now

abbrev pub decreases-choose : goal.decreases-choose
decreases-choose g l = 3 * max (height l.test.now) (max (height l.value.now) (height l.other.now)) + 1

abbrev pub decreases-either : goal.decreases-either
decreases-either g l = 3 * max (height l.left.now) (height l.right.now) + 2

abbrev pub decreases-both : goal.decreases-both
decreases-both g l = 3 * max (height l.left.now) (height l.right.now) + 2

abbrev pub decreases-flag : goal.decreases-flag
decreases-flag g l = 3 * height l.expr.now + 1

abbrev pub decreases-combine : goal.decreases-combine
decreases-combine g l = 3 * max (height l.left.now) (height l.right.now) + 1

abbrev pub decreases-apply : goal.decreases-apply
decreases-apply g l = 3 * height l.operand.now + 1

abbrev pub decreases-part : goal.decreases-part
decreases-part g l = 3 * height l.holder.now + 1

abbrev pub decreases-load : goal.decreases-load
decreases-load g l = 3 * height l.id.now + 1
