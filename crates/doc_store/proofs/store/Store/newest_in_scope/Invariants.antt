use Rattle.std.proofs.Common.{◌≡◌, max, drop}
use Rattle.spec_store.specs.Stale.{newest}
use Rattle.doc_store.proofs.store.Store.newest_in_scope.Given as goal

-- the greatest so far, or a greater one of the collections that are left, is the greatest of all
abbrev pub invariant-loop-collection : goal.invariant-loop-collection
invariant-loop-collection l = max l.newest (newest l.self (drop l.collection-index l.scope) l.upto) ≡ newest l.self l.scope l.upto
