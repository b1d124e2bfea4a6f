use Rattle.std.proofs.Common.{◌≡◌, drop, map}
use Rattle.spec_query.specs.Parameters.{AsItems, first_refused}
use Rattle.rql_tree.specs.View.{operand_of}
use Rattle.rql_plan.proofs.parameters.first_in_list.Given as goal

-- the first of those that are left is the first of all
abbrev pub invariant-loop-operand : goal.invariant-loop-operand
invariant-loop-operand l = first_refused l.parameters (map AsItems (map operand_of (drop l.operand-index l.operand-items))) ≡ first_refused l.parameters (map AsItems (map operand_of l.operand-items))
