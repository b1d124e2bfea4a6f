use Rattle.std.proofs.Common.{◌≡◌, drop, is_some, map}
use Rattle.raven_value.specs.View.{data_of}
use Rattle.spec_query.specs.Parameters.{plain_scalars}
use Rattle.rql_plan.proofs.parameters.are_plain.Given as goal

-- all are scalars if those that are left are
abbrev pub invariant-loop-value : goal.invariant-loop-value
invariant-loop-value l = is_some (plain_scalars (map data_of (drop l.value-index l.values))) ≡ is_some (plain_scalars (map data_of l.values))
