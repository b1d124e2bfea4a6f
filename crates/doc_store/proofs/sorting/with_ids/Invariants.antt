use Rattle.std.proofs.Common.{◌≡◌, take}
use Rattle.doc_store.specs.Maps.{by_id}
use Rattle.doc_store.proofs.sorting.with_ids.Given as goal

abbrev pub invariant-loop-row : goal.invariant-loop-row
invariant-loop-row l = l.pairs.items ≡ by_id (take l.row-index l.rows)
