use Rattle.std.proofs.Common.{◌≡◌, [], drop, take}
use Rattle.doc_store.specs.Opening.{first_bad}
use Rattle.doc_store.proofs.store.Store.open_each.Given as goal

-- the rows so far are the store, of which nothing was cleaned, and the first bad one of the rest is that of all
abbrev pub invariant-loop-row : goal.invariant-loop-row
invariant-loop-row l = record {
  so_far : l.store.rows ≡ take l.row-index l.rows;
  fresh : l.store.cleaned ≡ 0;
  bad : first_bad l.store.rows (drop l.row-index l.rows) ≡ first_bad [] l.rows;
}
