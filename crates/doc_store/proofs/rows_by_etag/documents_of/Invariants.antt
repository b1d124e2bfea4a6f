use Rattle.std.proofs.Common.{◌≡◌, ◌++◌, filter}
use Rattle.spec_data.specs.Rows.{is_document}
use Rattle.doc_store.specs.Maps.{rows_in}
use Rattle.doc_store.proofs.rows_by_etag.documents_of.Given as goal

-- those so far, and those among the rows that are left
abbrev pub invariant-loop-pair : goal.invariant-loop-pair
invariant-loop-pair l = l.documents.items ++ filter is_document (rows_in l.pair-iterator) ≡ filter is_document (rows_in l.fn.rows)
