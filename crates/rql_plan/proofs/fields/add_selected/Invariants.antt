use Rattle.std.proofs.Common.{◌≡◌, ◌++◌, drop, map}
use Rattle.rql_plan.specs.View.{lent_fields}
use Rattle.rql_plan.proofs.fields.add_selected.Given as goal

-- those that are left have still to be added
abbrev pub invariant-loop-column : goal.invariant-loop-column
invariant-loop-column l = lent_fields l.fields.items ++ map (λ c. c.field) (drop l.column-index l.column-items) ≡ lent_fields l.initial.fields.items ++ map (λ c. c.field) l.column-items
