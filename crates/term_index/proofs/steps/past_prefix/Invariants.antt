use Rattle.std.proofs.Common.{◌≡◌, ◌≤◌, ◌<◌, ◌-◌, ℕ, length, slice_get, true, false, Some}
use Rattle.spec_data.specs.Scalars.{holds}
use Rattle.raven_value.specs.ScalarView.{scalar_view, test_view}
use Rattle.term_index.specs.declared.key.Key.TheVariants as k
use Rattle.term_index.specs.declared.key.Term.{Term}
use Rattle.term_index.proofs.steps.past_prefix.Given as goal

-- all before the first that is left begin so, and none from the end on
abbrev pub invariant-loop-first : goal.invariant-loop-first
invariant-loop-first l = record {
  from : l.start ≤ l.first;
  order : l.first ≤ l.end;
  within : l.end ≤ length l.terms;
  met : (i : ℕ) (t : Term) → slice_get l.terms i ≡ Some (k.At t, tt) → l.start ≤ i → i < l.first → holds (test_view l.test) false (scalar_view t.value) ≡ true;
  unmet : (i : ℕ) (t : Term) → slice_get l.terms i ≡ Some (k.At t, tt) → l.end ≤ i → holds (test_view l.test) false (scalar_view t.value) ≡ false;
}

abbrev pub decreases-loop-first : goal.decreases-loop-first
decreases-loop-first l = l.end - l.first
