use Rattle.std.proofs.Common.{◌≡◌, map, take}
use Rattle.spec_query.specs.Binding.{plain_column}
use Rattle.spec_query.specs.Query.{At}
use Rattle.rql_plan.proofs.plan.path_columns.Given as goal

abbrev pub invariant-loop-path : goal.invariant-loop-path
invariant-loop-path l = l.selected ≡ map (λ path. plain_column (At path)) (take l.path-index l.groups)
