use Rattle.std.proofs.Common.{◌≡◌, ◌++◌, drop, map}
use Rattle.std.specs.Prelude.{filter}
use Rattle.spec_query.specs.Fields.{is_to_be_offered}
use Rattle.rql_plan.specs.View.{lent_fields}
use Rattle.rql_plan.proofs.offered.Offered.add_selected.Given as goal

-- those that are left have still to be added
abbrev pub invariant-loop-column : goal.invariant-loop-column
invariant-loop-column l = lent_fields l.fields.items ++ filter (is_to_be_offered l.self) (map (λ c. c.field) (drop l.column-index l.columns)) ≡ lent_fields l.initial.fields.items ++ filter (is_to_be_offered l.self) (map (λ c. c.field) l.columns)
