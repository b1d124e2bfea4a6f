use denote.Shadow.{shadow}
use denote.Text.{Utf8}
use Rattle.std.proofs.Common.{◌≡◌, ◌++◌, drop, map, string_bytes, codes}
use Rattle.rql_print.specs.Print.{clause, column_text}
use Rattle.rql_print.proofs.clauses.add_select.Given as goal

-- those that are left have still to be written
abbrev pub invariant-loop-column : goal.invariant-loop-column
invariant-loop-column l = shadow (Utf8 l.lead) × (string_bytes l.out ++ clause l.lead (map column_text (drop l.column-index l.columns)) ≡ string_bytes l.fn.out ++ clause (codes " select ") (map column_text l.columns))
