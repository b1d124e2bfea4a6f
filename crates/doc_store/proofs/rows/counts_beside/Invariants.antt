use Rattle.std.proofs.Common.{◌≡◌, ◌+◌, not}
use Rattle.spec_data.specs.Rows.{is_document}
use Rattle.doc_store.specs.Maps.{passing_beside}
use Rattle.doc_store.proofs.rows.counts_beside.Given as goal

-- those so far, and those of the collections that are left
abbrev pub invariant-loop-pair : goal.invariant-loop-pair
invariant-loop-pair l = record {
  documents : l.documents + passing_beside is_document l.collection l.pair-iterator ≡ passing_beside is_document l.collection l.fn.collections;
  tombstones : l.tombstones + passing_beside (λ r. not (is_document r)) l.collection l.pair-iterator ≡ passing_beside (λ r. not (is_document r)) l.collection l.fn.collections;
}
