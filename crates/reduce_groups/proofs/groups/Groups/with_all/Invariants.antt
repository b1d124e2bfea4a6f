use Rattle.std.proofs.Common.{◌≡◌, ◌*◌, ◌+◌, ℕ, drop}
use Rattle.paged_map.specs.Merges.{MergesAtMost}
use Rattle.reduce_groups.specs.Groups.{AllLevels, entries_at, after_insertions}
use Rattle.reduce_groups.proofs.groups.Groups.with_all.Given as goal

abbrev pub invariant-loop-change : goal.invariant-loop-change
invariant-loop-change g l = record {
  fold : l.groups.fold ≡ l.fn.self.fold;
  entries : (q : g.row.G.Denot) → after_insertions g.G.Ord.cmp g.K.Ord.cmp q (entries_at g.G.Ord.cmp q l.groups.trees) (drop l.change-index l.insertions) ≡ after_insertions g.G.Ord.cmp g.K.Ord.cmp q (entries_at g.G.Ord.cmp q l.fn.self.trees) l.insertions;
  merges : (h : ℕ) → AllLevels h l.groups.trees → AllLevels h l.fn.self.trees × MergesAtMost (l.change-index * (64 * (h + 1))) l.fn.steps l.steps;
  maps : l.steps.maps ≡ l.fn.steps.maps;
  reads : l.steps.reads ≡ l.fn.steps.reads;
}
