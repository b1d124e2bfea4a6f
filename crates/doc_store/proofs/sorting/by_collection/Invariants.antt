use Rattle.std.proofs.Common.{ℕ, List, length}
use Rattle.doc_store.specs.Maps.{AreByCollection}
use Rattle.doc_store.proofs.SortLemmas.{IsPlaced}
use Rattle.doc_store.proofs.sorting.by_collection.Given as goal

abbrev pub invariant-loop-first : goal.invariant-loop-first
invariant-loop-first l = record {
  ordered : AreByCollection l.rest;
  placed : (c : List ℕ) → IsPlaced l.collections l.fn.rows.items l.rest c;
}

abbrev pub decreases-loop-first : goal.decreases-loop-first
decreases-loop-first l = length l.rest
