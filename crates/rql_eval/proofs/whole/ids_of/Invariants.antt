use Rattle.std.proofs.Common.{◌≡◌, ◌++◌, drop}
use Rattle.rql_eval.specs.Rows.{ids_of_rows}
use Rattle.rql_eval.proofs.whole.ids_of.Given as goal

abbrev pub invariant-loop-row : goal.invariant-loop-row
invariant-loop-row l = l.ids ++ ids_of_rows (drop l.row-index l.rows) ≡ ids_of_rows l.rows
