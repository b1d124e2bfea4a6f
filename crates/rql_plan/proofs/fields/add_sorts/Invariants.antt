use Rattle.std.proofs.Common.{◌≡◌, ◌++◌, drop, map}
use Rattle.rql_plan.specs.View.{lent_fields}
use Rattle.rql_plan.proofs.fields.add_sorts.Given as goal

-- those that are left have still to be added
abbrev pub invariant-loop-sort : goal.invariant-loop-sort
invariant-loop-sort l = lent_fields l.fields.items ++ map (λ s. s.field) (drop l.sort-index l.sorts) ≡ lent_fields l.initial.fields.items ++ map (λ s. s.field) l.sorts
