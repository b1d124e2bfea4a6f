use Rattle.std.proofs.Common.{◌≡◌, map, take}
use Rattle.spec_query.specs.Binding.{selected_column}
use Rattle.rql_plan.proofs.plan.selected_columns.Given as goal

abbrev pub invariant-loop-column : goal.invariant-loop-column
invariant-loop-column l = l.selected ≡ map selected_column (take l.column-index l.columns)
