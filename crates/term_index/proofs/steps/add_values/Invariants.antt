use Rattle.std.proofs.Common.{ℕ, List, drop, length, map}
use Rattle.spec_data.specs.Scalars.{In, holds}
use Rattle.raven_value.specs.ScalarView.{scalar_view}
use Rattle.term_index.specs.Steps.{AreAmong, AreWithin, HaveOneAnswer, StepsAt}
use Rattle.term_index.proofs.steps.add_values.Given as goal

-- at the places so far, the values up to here change no answer
abbrev pub invariant-loop-value : goal.invariant-loop-value
invariant-loop-value l = record {
  more : AreAmong l.fn.places.items l.places.items;
  within : AreWithin (length l.terms) l.fn.places.items → AreWithin (length l.terms) l.places.items;
  steps : (more : List ℕ) → AreAmong l.places.items more → StepsAt more (HaveOneAnswer (holds (In (map scalar_view (drop l.value-index l.values))) l.exact)) l.terms → StepsAt more (HaveOneAnswer (holds (In (map scalar_view l.values)) l.exact)) l.terms;
}
