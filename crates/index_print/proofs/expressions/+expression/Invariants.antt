use Rattle.std.proofs.Common.{◌+◌, ◌*◌}
use Rattle.std.specs.Prelude.{max}
use Rattle.index_tree.specs.Trees.{height}
use Rattle.index_print.proofs.expressions.+expression.Given as goal

abbrev pub decreases-add_expression : goal.decreases-add_expression
decreases-add_expression l = 3 * height l.expr.now

abbrev pub decreases-add_operand : goal.decreases-add_operand
decreases-add_operand l = 3 * height l.expr.now + 1

abbrev pub decreases-add_conditional : goal.decreases-add_conditional
decreases-add_conditional l = 3 * max (height l.test.now) (max (height l.value.now) (height l.other.now)) + 2

abbrev pub decreases-add_binary : goal.decreases-add_binary
decreases-add_binary l = 3 * max (height l.left.now) (height l.right.now) + 2

abbrev pub decreases-add_load : goal.decreases-add_load
decreases-add_load l = 3 * height l.id.now + 2
