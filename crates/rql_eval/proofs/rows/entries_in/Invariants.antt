use Rattle.std.proofs.Common.{◌≡◌, ◌++◌, map, drop}
use Rattle.rql_eval.proofs.rows.entries_in.Given as goal

abbrev pub invariant-loop-row : goal.invariant-loop-row
invariant-loop-row l = map (λ r. r.now) l.entries.items ++ map (λ r. r.1.now) (drop l.row-index l.rows) ≡ map (λ r. r.1.now) l.rows
