use Rattle.std.proofs.Common.{◌≡◌, drop, not}
use Rattle.std.specs.Prelude.{find}
use Rattle.spec_query.specs.Fields.{is_offered}
use Rattle.rql_plan.specs.View.{lent_fields}
use Rattle.rql_plan.proofs.offered.Offered.first_missing.Given as goal

-- the first of those that are left is the first of all
abbrev pub invariant-loop-field : goal.invariant-loop-field
invariant-loop-field l = find (λ field. not (is_offered l.self field)) (lent_fields (drop l.field-index l.fields)) ≡ find (λ field. not (is_offered l.self field)) (lent_fields l.fields)
