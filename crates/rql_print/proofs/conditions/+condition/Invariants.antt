use Rattle.std.proofs.Common.{◌+◌, ◌*◌}
use Rattle.rql_tree.specs.Codes.{height}
use Rattle.rql_print.proofs.conditions.+condition.Given as goal

abbrev pub decreases-add_condition : goal.decreases-add_condition
decreases-add_condition l = 2 * height l.cond.now

abbrev pub decreases-add_operand : goal.decreases-add_operand
decreases-add_operand l = 2 * height l.cond.now + 1
