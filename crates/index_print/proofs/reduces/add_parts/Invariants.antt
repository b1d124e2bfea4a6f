use Rattle.std.proofs.Common.{◌≡◌, ◌++◌, drop, map, string_bytes}
use Rattle.index_print.specs.Print.{listed, part}
use Rattle.index_print.proofs.Lists.{goes_on}
use Rattle.index_print.proofs.reduces.add_parts.Given as goal

abbrev pub invariant-loop-name : goal.invariant-loop-name
invariant-loop-name l = string_bytes l.out ++ goes_on l.later (map (part l.fn.var) (drop l.name-index l.name-items)) ≡ string_bytes l.fn.out ++ listed (map (part l.fn.var) l.names)
