use Rattle.std.proofs.Common.{◌≡◌, ◌++◌, drop, map}
use Rattle.raven_value.specs.ScalarView.{scalar_view}
use Rattle.spec_query.specs.Parameters.{scalars_in}
use Rattle.rql_tree.specs.View.{operand_of}
use Rattle.rql_plan.proofs.values.scalars_in.Given as goal

-- those that are left have still to be added
abbrev pub invariant-loop-operand : goal.invariant-loop-operand
invariant-loop-operand l = map scalar_view l.items ++ scalars_in l.parameters (map operand_of (drop l.operand-index l.operand-items)) ≡ scalars_in l.parameters (map operand_of l.operand-items)
