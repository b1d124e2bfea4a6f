use Rattle.std.proofs.Common.{sym, arith}
use Rattle.spec_data.specs.Scalars.{Is, holds}
use Rattle.raven_value.specs.ScalarView.{scalar_view}
use Rattle.term_index.specs.Steps.{HaveOneAnswer}
use Rattle.term_index.proofs.Changing.{among_both, more_steps}
use Rattle.term_index.proofs.Counted.{in_steps, none_steps}
use Rattle.term_index.proofs.steps.add_values.Goals as goal

pub loop-value-preserved : goal.loop-value-preserved
loop-value-preserved c = record {
  more = λ n h. c.in_ok-add_value.ensures.more n (c.loop-value.invariant.more n h);
  within = λ w. c.in_ok-add_value.ensures.within (c.loop-value.invariant.within w);
  steps = λ more among rest.
      c.loop-value.invariant.steps more (among_both c.loop-value.places.items c.add_value.new.places.items more c.in_ok-add_value.ensures.more among)
      (in_steps c.args.exact c.args.values.now c.loop-value.value-index c.value-item.result more c.args.terms.now c.loop-value-test.true (sym c.value-item.is)
      (more_steps c.add_value.new.places.items more (HaveOneAnswer (holds (Is (scalar_view c.value-item.result)) c.args.exact)) c.args.terms.now among (c.in_ok-add_value.ensures.steps c.if-not-branch.false)) rest);
}

pub returns-clause-steps : goal.returns-clause-steps
returns-clause-steps c = λ known.
    c.loop-value.invariant.steps c.loop-value.places.items (λ n h. h)
    (none_steps c.args.exact c.args.values.now c.loop-value.value-index c.loop-value.places.items c.args.terms.now (omega (arith, c.loop-value-test.false)))
