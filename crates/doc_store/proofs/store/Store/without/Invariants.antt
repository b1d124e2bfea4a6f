use Rattle.std.proofs.Common.{◌≡◌, drop}
use Rattle.spec_store.specs.Cleaning.{old_tombstones, without_tombstones}
use Rattle.spec_store.specs.Store.{last}
use Rattle.doc_store.specs.Bounds.{AreRows}
use Rattle.doc_store.proofs.store.Store.without.Given as goal

-- the old tombstones that are left are those that are still to go, and all else is as it was
abbrev pub invariant-loop-row : goal.invariant-loop-row
invariant-loop-row l = record {
  old : old_tombstones l.cleaned l.store.rows ≡ drop l.row-index l.row-items;
  others : without_tombstones l.cleaned l.store.rows ≡ without_tombstones l.cleaned l.self.rows;
  last : last l.store ≡ last l.self;
  rows : AreRows l.store.rows;
}
