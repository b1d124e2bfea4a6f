use Rattle.std.proofs.Common.{◌≡◌, ◌++◌, drop, map}
use Rattle.rql_results.specs.Documents.{found_in}
use Rattle.rql_results.specs.Led.{led_by_rows}
use Rattle.rql_results.proofs.rows.included_by_rows.Given as goal

abbrev pub invariant-loop-row : goal.invariant-loop-row
invariant-loop-row g l = map found_in l.led.items ++ led_by_rows (g.T.Lookup.rows l.rows) l.paths (map (λ r. r.now) (drop l.row-index l.found)) ≡ led_by_rows (g.T.Lookup.rows l.rows) l.paths (map (λ r. r.now) l.found)
