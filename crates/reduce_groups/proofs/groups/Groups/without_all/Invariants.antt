use Rattle.std.proofs.Common.{◌≡◌, ◌*◌, ◌+◌, ℕ, drop}
use Rattle.paged_map.specs.Merges.{MergesAtMost}
use Rattle.reduce_groups.specs.Groups.{AllLevels, entries_at, after_removals}
use Rattle.reduce_groups.proofs.groups.Groups.without_all.Given as goal

abbrev pub invariant-loop-change : goal.invariant-loop-change
invariant-loop-change g l = record {
  fold : l.groups.fold ≡ l.fn.self.fold;
  entries : (q : g.row.G.Denot) → after_removals g.G.Ord.cmp g.K.Ord.cmp q (entries_at g.G.Ord.cmp q l.groups.trees) (drop l.change-index l.removals) ≡ after_removals g.G.Ord.cmp g.K.Ord.cmp q (entries_at g.G.Ord.cmp q l.fn.self.trees) l.removals;
  merges : (h : ℕ) → AllLevels h l.fn.self.trees → AllLevels h l.groups.trees × MergesAtMost (l.change-index * (64 * (h + 1))) l.fn.steps l.steps;
  maps : l.steps.maps ≡ l.fn.steps.maps;
  reads : l.steps.reads ≡ l.fn.steps.reads;
}
