use denote.Shadow.{shadow}
use denote.Text.{Utf8}
use Rattle.std.proofs.Common.{◌≡◌, ◌++◌, drop, map, string_bytes}
use Rattle.spec_query.specs.Printing.{path_text}
use Rattle.rql_print.specs.Print.{clause}
use Rattle.rql_print.proofs.clauses.add_paths.Given as goal

-- those that are left have still to be written
abbrev pub invariant-loop-path : goal.invariant-loop-path
invariant-loop-path l = shadow (Utf8 l.lead) × (string_bytes l.out ++ clause l.lead (map path_text (drop l.path-index l.paths)) ≡ string_bytes l.fn.out ++ clause l.word (map path_text l.paths))
