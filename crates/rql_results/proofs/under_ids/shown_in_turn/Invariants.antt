use Rattle.std.proofs.Common.{◌≡◌, [], drop, map}
use Rattle.rql_results.specs.Documents.{found_in}
use Rattle.rql_results.specs.Led.{with_all}
use Rattle.rql_results.proofs.under_ids.shown_in_turn.Given as goal

abbrev pub invariant-loop-found : goal.invariant-loop-found
invariant-loop-found g l = with_all (g.W.Show.shown l.show) (map found_in (drop l.found-index l.documents)) l.members ≡ with_all (g.W.Show.shown l.show) (map found_in l.documents) []
