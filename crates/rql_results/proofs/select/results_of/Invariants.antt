use Rattle.std.proofs.Common.{◌≡◌, ◌++◌, map, drop}
use Rattle.rql_results.specs.Documents.{found_in, result_of}
use Rattle.rql_results.proofs.select.results_of.Given as goal

abbrev pub invariant-loop-found : goal.invariant-loop-found
invariant-loop-found g l = l.results ++ map (result_of (g.W.Show.shown l.show) l.columns) (map found_in (drop l.found-index l.documents)) ≡ map (result_of (g.W.Show.shown l.show) l.columns) (map found_in l.documents)
