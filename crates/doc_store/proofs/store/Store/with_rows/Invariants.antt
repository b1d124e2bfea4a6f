use Rattle.std.proofs.Common.{◌≡◌, drop}
use Rattle.spec_store.specs.Store.{IsStore, with_rows}
use Rattle.spec_store.specs.Later.{MayFollowAll}
use Rattle.doc_store.proofs.store.Store.with_rows.Given as goal

-- what is still to be put in may follow, and leads to the same store
abbrev pub invariant-loop-row : goal.invariant-loop-row
invariant-loop-row l = record {
  goes : with_rows l.store (drop l.row-index l.row-items) ≡ with_rows l.self l.row-items;
  follow : MayFollowAll l.store (drop l.row-index l.row-items);
  sound : IsStore l.store;
}
