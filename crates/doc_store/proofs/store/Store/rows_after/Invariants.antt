use Rattle.std.proofs.Common.{◌≡◌, ◌≤◌, ◌+◌, ◌*◌, ◌++◌, length}
use Rattle.spec_store.specs.Stale.{past}
use Rattle.doc_store.proofs.store.Store.rows_after.Given as goal

-- what was found so far, and what is past the last of it; the scope was looked through once for each row
abbrev pub invariant-loop-row : goal.invariant-loop-row
invariant-loop-row g l = record {
  all : l.found ++ past l.collections l.after l.self ≡ past l.collections l.etag l.self;
  few : length l.found ≤ l.max;
  maps : l.steps.maps ≡ l.fn.steps.maps;
  merges : l.steps.merges ≡ l.fn.steps.merges;
  reads : l.steps.reads ≡ l.fn.steps.reads + length l.found * length l.collections;
}

abbrev pub decreases-loop-row : goal.decreases-loop-row
decreases-loop-row g l = length (past l.collections l.after l.self)
