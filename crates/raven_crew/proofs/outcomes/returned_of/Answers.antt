use Rattle.std.proofs.Common.{arith, sym, ap, ◌∙◌, ◌++◌, ◌∷◌, []}
use Rattle.raven_crew.proofs.Zips.{took_one, took_all, back-push, back-skip}
use Rattle.std.specs.Vec.Iter.{into_iter_items}
use Rattle.raven_crew.specs.Outcomes.{returned_in}
use Rattle.raven_crew.proofs.outcomes.returned_of.Goals as goal

pub loop-outcome-preserved-in-Some-back : goal.loop-outcome-preserved-in-Some-back
loop-outcome-preserved-in-Some-back g c = let was = c.loop-outcome.invariant in let step = c.in-Some.ensures.steps in let pushed = c.push_reserved.ensures in let y = c.loop-outcome.yielded in (
  pushed.items ∙ ap (λ l. l ++ c.in-Some-back.job ∷ []) was.0 ∙ sym (back-push y c.in-Some.outcome c.in-Some-back.job (sym c.err-back.ensures.value ∙ c.in-Some-back.is)),
  took_one _ _ _ _ c.in-Some.outcome was.1 step.0,
  omega (arith, was.2, step.1, pushed.len, pushed.capacity),
)

pub loop-outcome-preserved : goal.loop-outcome-preserved
loop-outcome-preserved g c = let was = c.loop-outcome.invariant in let step = c.in-Some.ensures.steps in let y = c.loop-outcome.yielded in (
  was.0 ∙ sym (back-skip y c.in-Some.outcome (sym c.err-back.ensures.value ∙ c.in_default.is)),
  took_one _ _ _ _ c.in-Some.outcome was.1 step.0,
  omega (arith, was.2, step.1),
)

pub returns : goal.returns
returns g c = let was = c.loop-outcome.invariant in
    was.0 ∙ ap returned_in (took_all c.args.outcomes.items c.loop-outcome.yielded (into_iter_items c.loop-outcome.outcome-iterator) was.1 (omega (arith, c.loop-outcome.outcome-iterator.rest.ok.0, c.in-None.ensures.steps)))
