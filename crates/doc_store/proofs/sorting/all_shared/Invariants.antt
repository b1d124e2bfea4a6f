use Rattle.std.proofs.Common.{◌≡◌, take}
use Rattle.doc_store.proofs.sorting.all_shared.Given as goal

abbrev pub invariant-loop-row : goal.invariant-loop-row
invariant-loop-row l = l.shared.items ≡ take l.row-index l.rows
