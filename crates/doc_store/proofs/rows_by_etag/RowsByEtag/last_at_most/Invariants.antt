use Rattle.std.proofs.Common.{◌≤◌, ◌-◌}
use Rattle.doc_store.proofs.NewestLemmas.{greatest}
use Rattle.doc_store.proofs.rows_by_etag.RowsByEtag.last_at_most.Given as goal

-- the greatest etag is between the two
abbrev pub invariant-loop-low : goal.invariant-loop-low
invariant-loop-low l = record {
  above : l.low ≤ greatest l.most l.self;
  below : greatest l.most l.self ≤ l.high;
  within : l.high ≤ l.most;
}

abbrev pub decreases-loop-low : goal.decreases-loop-low
decreases-loop-low l = l.high - l.low
