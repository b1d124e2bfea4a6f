use Rattle.std.proofs.Common.{map, IfSome, sym, subst, ap, ◌∙◌}
use Rattle.raven_value.specs.ScalarView.{test_view}
use Rattle.term_index.specs.Decided.{AreAlike}
use Rattle.term_index.specs.Steps.{StepsAt, is_place}
use Rattle.term_index.proofs.counting.count_meeting.Goals as goal

pub count_in_runs-requires-clause-steps : goal.count_in_runs-requires-clause-steps
count_in_runs-requires-clause-steps g c = λ i t u p q none.
    let steps = subst (λ o. IfSome o (λ places. StepsAt places.items (AreAlike (map (λ t. (test_view t.0.now, t.1)) c.args.tests.now)) c.args.terms.now)) c.in-Some.is c.in_ok-places.ensures.steps in
    c.requires.tests _ _ (steps i t u p q (ap (is_place _) (sym c.deref.ensures.value) ∙ none))
