use denote.Shadow.{shadow}
use denote.Text.{Utf8}
use Rattle.std.proofs.Common.{◌≡◌, ◌++◌, drop, map, string_bytes}
use Rattle.rql_print.specs.Print.{clause, value_text}
use Rattle.rql_tree.specs.View.{operand_of}
use Rattle.rql_print.proofs.values.add_values.Given as goal

-- those that are left have still to be written
abbrev pub invariant-loop-operand : goal.invariant-loop-operand
invariant-loop-operand l = shadow (Utf8 l.lead) × (string_bytes l.out ++ clause l.lead (map value_text (map operand_of (drop l.operand-index l.operands))) ≡ string_bytes l.fn.out ++ clause l.word (map value_text (map operand_of l.operands)))
