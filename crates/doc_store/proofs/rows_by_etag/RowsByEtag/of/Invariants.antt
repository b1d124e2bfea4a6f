use Rattle.std.proofs.Common.{◌≡◌, take}
use Rattle.spec_store.specs.Store.{last_of}
use Rattle.doc_store.specs.Maps.{AreFrom, by_etag}
use Rattle.doc_store.proofs.rows_by_etag.RowsByEtag.of.Given as goal

abbrev pub invariant-loop-row : goal.invariant-loop-row
invariant-loop-row l = record {
  pairs : l.pairs.items ≡ by_etag (take l.row-index l.rows);
  last : l.last ≡ last_of 0 (take l.row-index l.rows);
  from : AreFrom l.least (take l.row-index l.rows);
}
