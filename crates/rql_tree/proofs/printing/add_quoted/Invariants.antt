use Rattle.std.proofs.Common.{◌≡◌, ◌++◌, ◌∷◌, [], flat_map, string_bytes}
use Rattle.std.specs.Str.Iter.{chars_rest}
use Rattle.spec_query.specs.Printing.{quoted}
use Rattle.rql_tree.specs.Printed.{escaped}
use Rattle.rql_tree.proofs.printing.add_quoted.Given as goal

-- the rest has still to be written
abbrev pub invariant-loop-letter : goal.invariant-loop-letter
invariant-loop-letter l = string_bytes l.out ++ (flat_map escaped (chars_rest l.letter-iterator) ++ 39 ∷ []) ≡ string_bytes l.fn.out ++ quoted l.fn.text
