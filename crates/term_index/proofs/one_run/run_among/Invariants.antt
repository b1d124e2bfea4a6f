use Rattle.std.proofs.Common.{◌≤◌, ◌<◌, ℕ, get_or, length}
use Rattle.term_index.specs.Steps.{IsRunTo}
use Rattle.term_index.proofs.one_run.run_among.Given as goal

-- what is found, up to the last place so far
abbrev pub invariant-loop-place : goal.invariant-loop-place
invariant-loop-place g l = record {
  run : IsRunTo (g.C.ValueCondition.meets l.condition) l.terms l.run.start l.run.end l.from;
  within : l.from ≤ length l.terms;
  below : (j : ℕ) → j < l.place-index → get_or l.places j 0 ≤ l.from;
  above : (j : ℕ) → l.place-index ≤ j → j < length l.places → l.from ≤ get_or l.places j 0;
}
