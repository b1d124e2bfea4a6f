use Rattle.std.proofs.Common.{◌≡◌, ◌≤◌, ◌-◌, length}
use Rattle.doc_keeper.proofs.LoadLemmas.{CallsSoFar, SoFar}
use Rattle.doc_keeper.proofs.loading.load.Given as goal

-- the rows so far and the next page; the keeper holds what it held
abbrev pub invariant-loop-after : goal.invariant-loop-after
invariant-loop-after g l = record {
  so_far : SoFar l.limits.rows (g.K.Keeper.state l.fn.keeper).held l.rows l.after l.page;
  called : CallsSoFar (g.K.Keeper.state l.fn.keeper).held (length l.rows) l.page (g.K.Keeper.state l.fn.keeper).plan (g.K.Keeper.state l.keeper).plan;
  same : (g.K.Keeper.state l.keeper).held ≡ (g.K.Keeper.state l.fn.keeper).held;
  later : (g.K.Keeper.state l.fn.keeper).count ≤ (g.K.Keeper.state l.keeper).count;
}

-- each page has rows
abbrev pub decreases-loop-after : goal.decreases-loop-after
decreases-loop-after g l = l.limits.rows - length l.rows
