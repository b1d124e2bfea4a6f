use Rattle.std.proofs.Common.{◌≡◌, ◌≤◌, ◌+◌, ◌*◌, drop}
use Rattle.reduce_tree.specs.Changes.{removed, removals}
use Rattle.reduce_tree.proofs.tree.members_without.Given as goal

abbrev pub invariant-loop-change : goal.invariant-loop-change
invariant-loop-change g l = record {
  pairs : removed g.K.Ord.cmp l.left.pairs (drop l.change-index l.changes) ≡ removed g.K.Ord.cmp l.members.pairs l.changes;
  levels : l.left.levels ≤ l.members.levels;
  merges : l.steps.merges + removals (drop l.change-index l.changes) * (64 * (l.members.levels + 1)) ≤ l.fn.steps.merges + removals l.changes * (64 * (l.members.levels + 1));
  maps : l.steps.maps ≡ l.fn.steps.maps;
  reads : l.steps.reads ≡ l.fn.steps.reads;
}
