use Rattle.std.proofs.Common.{◌≡◌, ◌++◌, drop, map}
use Rattle.rql_results.specs.Documents.{found_in}
use Rattle.rql_results.specs.Led.{led_by_documents}
use Rattle.rql_results.proofs.include.included.Given as goal

abbrev pub invariant-loop-found : goal.invariant-loop-found
invariant-loop-found g l = map found_in l.led.items ++ led_by_documents (g.T.Lookup.rows l.rows) l.paths (map found_in (drop l.found-index l.documents)) ≡ led_by_documents (g.T.Lookup.rows l.rows) l.paths (map found_in l.documents)
