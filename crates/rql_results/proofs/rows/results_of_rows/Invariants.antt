use Rattle.std.proofs.Common.{◌≡◌, ◌++◌, map, drop}
use Rattle.rql_results.specs.Rows.{row_result}
use Rattle.rql_results.proofs.rows.results_of_rows.Given as goal

abbrev pub invariant-loop-row : goal.invariant-loop-row
invariant-loop-row l = l.results ++ map (row_result l.columns) (map (λ r. r.now) (drop l.row-index l.rows)) ≡ map (row_result l.columns) (map (λ r. r.now) l.rows)
