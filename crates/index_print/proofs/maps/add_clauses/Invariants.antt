use Rattle.std.proofs.Common.{◌≡◌, ◌++◌, drop, flat_map, string_bytes}
use Rattle.index_print.specs.Print.{clause}
use Rattle.index_print.proofs.maps.add_clauses.Given as goal

abbrev pub invariant-loop-part : goal.invariant-loop-part
invariant-loop-part l = string_bytes l.out ++ flat_map clause (drop l.part-index l.part-items) ≡ string_bytes l.fn.out ++ flat_map clause l.clauses
