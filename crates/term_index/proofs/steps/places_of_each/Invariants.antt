use Rattle.std.proofs.Common.{ℕ, List, drop, length, map}
use Rattle.raven_value.specs.ScalarView.{test_view}
use Rattle.term_index.specs.Decided.{AreAlike}
use Rattle.term_index.specs.Steps.{AreAmong, AreWithin, StepsAt}
use Rattle.term_index.proofs.steps.places_of_each.Given as goal

-- at the places so far, the tests up to here change no answer
abbrev pub invariant-loop-asked : goal.invariant-loop-asked
invariant-loop-asked l = record {
  within : AreWithin (length l.terms) l.places.items;
  steps : (more : List ℕ) → AreAmong l.places.items more → StepsAt more (AreAlike (map (λ t. (test_view t.0.now, t.1)) (drop l.asked-index l.tests))) l.terms → StepsAt more (AreAlike (map (λ t. (test_view t.0.now, t.1)) l.tests)) l.terms;
}
