use Rattle.std.proofs.Common.{arith, sym, subst, ◌++◌, ◌∷◌, []}
use Rattle.std.specs.List.{AllZip}
use Rattle.raven_crew.proofs.Zips.{zip_push, zip_on, took_one, took_all}
use Rattle.raven_crew.specs.Outcomes.{IsOutcome}
use Rattle.raven_crew.proofs.outcomes.outputs_of.Goals as goal

pub loop-one-preserved : goal.loop-one-preserved
loop-one-preserved g c = let was = c.loop-one.invariant in let step = c.in-Some.ensures.steps in let pushed = c.push_reserved.ensures in let done = g.J.Job.done in (
  subst (λ l. AllZip (λ r output. (job : g.row.J.Denot) → IsOutcome done job r → done job output) (c.loop-one.yielded ++ c.in-Some.one ∷ []) l) (sym pushed.items)
      (zip_push (λ r output. (job : g.row.J.Denot) → IsOutcome done job r → done job output) _ _ c.in-Some.one c.output_of.result was.0 c.output_of.ensures),
  took_one _ _ _ _ c.in-Some.one was.1 step.0,
  omega (arith, was.2, step.1, pushed.len, pushed.capacity),
)

pub returns : goal.returns
returns g c = let was = c.loop-one.invariant in let done = g.J.Job.done in
    λ jobs z. zip_on (IsOutcome done) done jobs c.args.outcomes.items c.loop-one.outputs.items z
    (subst (λ l. AllZip (λ r output. (job : g.row.J.Denot) → IsOutcome done job r → done job output) l c.loop-one.outputs.items) (took_all _ _ _ was.1 (omega (arith, c.loop-one.one-iterator.rest.ok.0, c.in-None.ensures.steps))) was.0)
