use Rattle.std.proofs.Common.{length, map, IfSome, subst, ◌∙◌}
use Rattle.std.proofs.lemmas.List.Sorted.{IsNonDecreasingBy-from_sort}
use Rattle.raven_value.specs.ScalarView.{test_view}
use Rattle.term_index.specs.Decided.{AreAlike}
use Rattle.term_index.specs.Steps.{AreWithin, StepsAt}
use Rattle.term_index.proofs.Counted.{same_places}
use Rattle.term_index.proofs.steps.places_of.Goals as goal

pub returns-in-Some-clause-sorted : goal.returns-in-Some-clause-sorted
returns-in-Some-clause-sorted c = IsNonDecreasingBy-from_sort (λ n. n) c.sort_unstable.new.self.items c.sort_unstable.ensures.sorted

pub returns-in-Some-clause-steps : goal.returns-in-Some-clause-steps
returns-in-Some-clause-steps c = λ i t u p q none.
    let steps = subst (λ o. IfSome o (λ places. StepsAt places.items (AreAlike (map (λ t. (test_view t.0.now, t.1)) c.args.tests.now)) c.args.terms.now)) c.in-Some.is c.in_ok-places.ensures.steps in
    steps i t u p q (same_places _ c.in-Some.places.items c.sort_unstable.new.self.items c.sort_unstable.ensures.permutation ∙ none)

pub returns-in-Some-clause-within : goal.returns-in-Some-clause-within
returns-in-Some-clause-within c = λ n h.
    let within = subst (λ o. IfSome o (λ places. AreWithin (length c.args.terms.now) places.items)) c.in-Some.is c.in_ok-places.ensures.within in
    within n (same_places n c.in-Some.places.items c.sort_unstable.new.self.items c.sort_unstable.ensures.permutation ∙ h)
