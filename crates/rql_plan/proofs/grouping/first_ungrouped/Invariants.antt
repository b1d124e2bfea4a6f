use Rattle.std.proofs.Common.{◌≡◌, drop}
use Rattle.std.specs.Prelude.{find}
use Rattle.spec_query.specs.Fields.{is_ungrouped}
use Rattle.rql_plan.specs.View.{lent_fields}
use Rattle.rql_plan.proofs.grouping.first_ungrouped.Given as goal

-- the first of those that are left is the first of all
abbrev pub invariant-loop-field : goal.invariant-loop-field
invariant-loop-field l = find (is_ungrouped l.groups) (lent_fields (drop l.field-index l.fields)) ≡ find (is_ungrouped l.groups) (lent_fields l.fields)
