use Rattle.std.proofs.Common.{◌≡◌, ◌++◌, drop, map, string_bytes}
use Rattle.spec_query.specs.Printing.{part_text}
use Rattle.rql_tree.specs.Printed.{parted}
use Rattle.rql_tree.proofs.Parts.{goes_on}
use Rattle.rql_tree.proofs.printing.add_parts.Given as goal

-- the parts that are left have still to be written
abbrev pub invariant-loop-part : goal.invariant-loop-part
invariant-loop-part l = string_bytes l.out ++ goes_on l.later (map part_text (drop l.part-index l.parts)) ≡ string_bytes l.fn.out ++ parted (map part_text l.parts)
