use Rattle.std.proofs.Common.{◌≡◌, ◌++◌}
use Rattle.doc_store.specs.Maps.{rows_in}
use Rattle.doc_store.proofs.rows.all_of.Given as goal

-- the rows so far, and those that are left
abbrev pub invariant-loop-pair : goal.invariant-loop-pair
invariant-loop-pair g l = l.all.items ++ rows_in l.pair-iterator ≡ rows_in l.fn.rows
