use Rattle.std.proofs.Common.{◌≡◌, ◌++◌, drop, map}
use Rattle.spec_data.specs.Scalars.{scalar_of}
use Rattle.raven_value.specs.ScalarView.{scalar_view}
use Rattle.raven_value.specs.View.{data_of}
use Rattle.rql_plan.proofs.values.add_all.Given as goal

-- those that are left have still to be added
abbrev pub invariant-loop-value : goal.invariant-loop-value
invariant-loop-value l = map scalar_view l.items ++ map scalar_of (map data_of (drop l.value-index l.values)) ≡ map scalar_view l.initial.items ++ map scalar_of (map data_of l.values)
