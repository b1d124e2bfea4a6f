use Rattle.std.proofs.Common.{◌≡◌, ◌++◌, drop, map}
use Rattle.std.specs.List.{filter_map}
use Rattle.spec_server.specs.Shapes.{path_in}
use Rattle.rql_plan.specs.View.{lent_fields}
use Rattle.rql_plan.proofs.shapes.paths_in.Given as goal

-- those that are left have still to be added
abbrev pub invariant-loop-field : goal.invariant-loop-field
invariant-loop-field l = map (λ p. p.now) l.all.items ++ filter_map path_in (lent_fields (drop l.field-index l.fields)) ≡ filter_map path_in (lent_fields l.fields)
