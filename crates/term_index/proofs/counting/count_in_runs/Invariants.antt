use Rattle.std.proofs.Common.{◌≡◌, ◌≤◌, ◌<◌, ℕ, get_or, length, take}
use Rattle.term_index.specs.Held.{chosen}
use Rattle.term_index.proofs.counting.count_in_runs.Given as goal

-- what is counted, up to the last place so far
abbrev pub invariant-loop-place : goal.invariant-loop-place
invariant-loop-place g l = record {
  count : l.count ≡ length (chosen (g.C.ValueCondition.meets l.condition) (take l.from l.terms));
  within : l.from ≤ length l.terms;
  below : (j : ℕ) → j < l.place-index → get_or l.places j 0 ≤ l.from;
  above : (j : ℕ) → l.place-index ≤ j → j < length l.places → l.from ≤ get_or l.places j 0;
}
