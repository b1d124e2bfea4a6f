use Rattle.std.proofs.Common.{◌≡◌, ◌≤◌, ◌+◌, drop, filter, length}
use Rattle.spec_data.specs.Rows.{is_document}
use Rattle.doc_store.proofs.rows_by_etag.documents_among.Given as goal

abbrev pub invariant-loop-row : goal.invariant-loop-row
invariant-loop-row l = record {
  documents : l.documents + length (filter is_document (drop l.row-index l.rows)) ≡ length (filter is_document l.rows);
  few : l.documents ≤ l.row-index;
}
