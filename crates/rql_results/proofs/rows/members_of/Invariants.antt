use Rattle.std.proofs.Common.{◌≡◌, drop, []}
use Rattle.spec_query.specs.Results.{in_row, members_of}
use Rattle.rql_results.proofs.rows.members_of.Given as goal

abbrev pub invariant-loop-column : goal.invariant-loop-column
invariant-loop-column l = members_of (in_row l.row) (drop l.column-index l.columns) l.members ≡ members_of (in_row l.row) l.columns []
