use Rattle.std.proofs.Common.{◌≡◌, ◌+◌, ◌≤◌, drop, length}
use Rattle.std.specs.Option.{option_copied}
use Rattle.doc_store.specs.Maps.{earlier}
use Rattle.doc_store.proofs.WalkLemmas.{first_in}
use Rattle.doc_store.proofs.store.Store.first_past.Given as goal

-- the first so far, or an earlier one of the collections that are left, is the first of all; there was one look for each collection
abbrev pub invariant-loop-collection : goal.invariant-loop-collection
invariant-loop-collection g l = record {
  first : earlier (option_copied l.first) (first_in (drop l.collection-index l.scope) l.etag l.self.rows) ≡ first_in l.scope l.etag l.self.rows;
  within : l.collection-index ≤ length l.scope;
  maps : l.steps.maps ≡ l.fn.steps.maps;
  merges : l.steps.merges ≡ l.fn.steps.merges;
  reads : l.steps.reads ≡ l.fn.steps.reads + l.collection-index;
}
