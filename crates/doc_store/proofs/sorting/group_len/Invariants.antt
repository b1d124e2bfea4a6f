use Rattle.std.proofs.Common.{◌≡◌, ◌≤◌, ◌-◌, ◌++◌, filter, length, take, drop}
use Rattle.doc_store.specs.Maps.{is_of}
use Rattle.doc_store.proofs.sorting.group_len.Given as goal

-- those so far are of the collection
abbrev pub invariant-loop-len : goal.invariant-loop-len
invariant-loop-len l = record {
  within : l.len ≤ length l.rows;
  group : filter (is_of l.collection) l.rows ≡ take l.len l.rows ++ filter (is_of l.collection) (drop l.len l.rows);
}

abbrev pub decreases-loop-len : goal.decreases-loop-len
decreases-loop-len l = length l.rows - l.len
