use Rattle.std.proofs.Common.{◌≡◌, length, true, false, subst, arith}
use Rattle.spec_data.specs.Scalars.{holds}
use Rattle.raven_value.specs.ScalarView.{test_view}
use Rattle.term_index.specs.Steps.{AreFromTo, is_place}
use Rattle.term_index.proofs.Changing.{among_more, fewer_first, is_last, run_steps, within_more}
use Rattle.term_index.proofs.steps.add_prefix.Goals as goal

pub returns-clause-steps : goal.returns-clause-steps
returns-clause-steps c = λ known.
    let test = test_view c.args.test.now in
    let es = c.args.terms.now in
    let places = c.push-2.new.self.items in
    run_steps test c.in_ok-low.low c.in_ok-low.ensures es c.len-terms.ensures.rising c.past_prefix-end.result places
    (subst (λ n. AreFromTo (holds test false) n c.past_prefix-end.result es) c.in_ok-start.ensures c.past_prefix-end.ensures.run)
    (subst (λ n. is_place n places ≡ true) c.in_ok-start.ensures (among_more _ c.push.new.self.items _ c.in_ok-push-2.ensures.items _ (is_last _ c.args.places.now.items _ c.in_ok-push.ensures.items)))
    (is_last _ c.push.new.self.items _ c.in_ok-push-2.ensures.items)

pub returns-clause-within : goal.returns-clause-within
returns-clause-within c = λ within.
    let es = c.args.terms.now in
    within_more (length es) _ c.push.new.self.items _ c.in_ok-push-2.ensures.items c.past_prefix-end.ensures.within
    (within_more (length es) _ c.args.places.now.items _ c.in_ok-push.ensures.items (omega (arith, c.in_ok-start.ensures, fewer_first c.in_ok-low.low es)) within)
