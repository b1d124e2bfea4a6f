use Rattle.std.proofs.Common.{sym, arith}
use Rattle.spec_data.specs.Scalars.{holds}
use Rattle.raven_value.specs.ScalarView.{test_view}
use Rattle.term_index.specs.Steps.{HaveOneAnswer}
use Rattle.term_index.proofs.Changing.{among_both, more_steps}
use Rattle.term_index.proofs.Counted.{alike_steps, all_alike}
use Rattle.term_index.proofs.steps.places_of_each.Goals as goal

pub loop-asked-preserved : goal.loop-asked-preserved
loop-asked-preserved c =
    let asked = c.asked-item.result in
    record {
      within = c.in_ok-add_test.ensures.within c.loop-asked.invariant.within;
      steps = λ more among rest.
          c.loop-asked.invariant.steps more (among_both c.loop-asked.places.items c.add_test.new.places.items more c.in_ok-add_test.ensures.more among)
          (alike_steps (λ t. (test_view t.0.now, t.1)) c.args.tests.now c.loop-asked.asked-index more c.args.terms.now asked c.loop-asked-test.true (sym c.asked-item.is)
          (more_steps c.add_test.new.places.items more (HaveOneAnswer (holds (test_view asked.0.now) asked.1)) c.args.terms.now among (c.in_ok-add_test.ensures.steps c.if-not-branch.false)) rest);
    }

pub returns-clause-steps : goal.returns-clause-steps
returns-clause-steps c =
    c.loop-asked.invariant.steps c.loop-asked.places.items (λ n h. h)
    (all_alike (λ t. (test_view t.0.now, t.1)) c.args.tests.now c.loop-asked.asked-index c.loop-asked.places.items c.args.terms.now (omega (arith, c.loop-asked-test.false)))
