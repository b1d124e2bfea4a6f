use denote.Shadow.{shadow}
use denote.Text.{Utf8}
use Rattle.std.proofs.Common.{◌≡◌, ◌++◌, drop, map, string_bytes, codes}
use Rattle.rql_print.specs.Print.{clause, sort_text}
use Rattle.rql_print.proofs.clauses.add_order.Given as goal

-- those that are left have still to be written
abbrev pub invariant-loop-sort : goal.invariant-loop-sort
invariant-loop-sort l = shadow (Utf8 l.lead) × (string_bytes l.out ++ clause l.lead (map sort_text (drop l.sort-index l.sorts)) ≡ string_bytes l.fn.out ++ clause (codes " order by ") (map sort_text l.sorts))
