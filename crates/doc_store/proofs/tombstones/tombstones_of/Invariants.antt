use Rattle.std.proofs.Common.{◌≡◌, ◌++◌, drop}
use Rattle.doc_store.specs.Maps.{by_etag, tombstones}
use Rattle.doc_store.proofs.tombstones.tombstones_of.Given as goal

-- those so far, and those among the rows that are left
abbrev pub invariant-loop-row : goal.invariant-loop-row
invariant-loop-row l = l.pairs.items ++ by_etag (tombstones (drop l.row-index l.rows)) ≡ by_etag (tombstones l.rows)
