use Rattle.std.proofs.Common.{◌≡◌, ◌≤◌, ◌+◌, ◌*◌, ℕ, drop}
use Rattle.reduce_tree.specs.Changes.{inserted, insertions}
use Rattle.reduce_tree.specs.Members.{member_of}
use Rattle.reduce_tree.proofs.tree.members_with.Given as goal

abbrev pub invariant-loop-change : goal.invariant-loop-change
invariant-loop-change g l = record {
  pairs : inserted g.K.Ord.cmp (member_of (g.F.Fold.lifted l.rows.fold)) l.grown.pairs (drop l.change-index l.changes) ≡ inserted g.K.Ord.cmp (member_of (g.F.Fold.lifted l.rows.fold)) l.fn.members.pairs l.changes;
  levels : l.fn.members.levels ≤ l.grown.levels;
  merges : (h : ℕ) → l.grown.levels ≤ h → l.steps.merges + insertions (drop l.change-index l.changes) * (64 * (h + 1)) ≤ l.fn.steps.merges + insertions l.changes * (64 * (h + 1));
  maps : l.steps.maps ≡ l.fn.steps.maps;
  reads : l.steps.reads ≡ l.fn.steps.reads;
}
