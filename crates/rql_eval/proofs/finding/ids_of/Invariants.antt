use Rattle.std.proofs.Common.{◌≡◌, ◌++◌, map, drop}
use Rattle.rql_eval.proofs.finding.ids_of.Given as goal

abbrev pub invariant-loop-entry : goal.invariant-loop-entry
invariant-loop-entry l = l.ids ++ map (λ e. e.0.now) (drop l.entry-index l.entries) ≡ map (λ e. e.0.now) l.entries
