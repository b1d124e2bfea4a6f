use Rattle.std.proofs.Common.{◌≡◌, ◌++◌, false, filter, map, drop}
use Rattle.spec_query.specs.Condition.{meets}
use Rattle.rql_eval.proofs.rows.meeting.Given as goal

abbrev pub invariant-loop-row : goal.invariant-loop-row
invariant-loop-row l = map (λ r. r.1.now) l.found.items ++ filter (meets l.condition false) (drop l.row-index l.rows) ≡ filter (meets l.condition false) l.rows
