use Rattle.std.proofs.Common.{arith, sym, subst, ◌++◌, ◌∷◌, []}
use Rattle.std.specs.List.{AllZip}
use Rattle.raven_crew.proofs.Zips.{zip_push, zip_on, took_one, took_all}
use Rattle.raven_crew.specs.Outcomes.{IsOutcome}
use Rattle.raven_crew.specs.Beginnings.{IsBegun}
use Rattle.raven_crew.proofs.outcomes.finish_all.Goals as goal

pub loop-one-preserved : goal.loop-one-preserved
loop-one-preserved g c = let was = c.loop-one.invariant in let step = c.in-Some.ensures.steps in let pushed = c.push_reserved.ensures in let done = g.J.Job.done in (
  subst (λ l. AllZip (λ begun r. (job : g.row.J.Denot) → IsBegun done job begun → IsOutcome done job r) (c.loop-one.yielded ++ c.in-Some.one ∷ []) l) (sym pushed.items)
      (zip_push (λ begun r. (job : g.row.J.Denot) → IsBegun done job begun → IsOutcome done job r) _ _ c.in-Some.one c.finish.result was.0 c.finish.ensures),
  took_one _ _ _ _ c.in-Some.one was.1 step.0,
  omega (arith, was.2, step.1, pushed.len, pushed.capacity),
)

pub returns : goal.returns
returns g c = let was = c.loop-one.invariant in let done = g.J.Job.done in
    λ jobs z. zip_on (IsBegun done) (IsOutcome done) jobs c.args.begun.items c.loop-one.outcomes.items z
    (subst (λ l. AllZip (λ begun r. (job : g.row.J.Denot) → IsBegun done job begun → IsOutcome done job r) l c.loop-one.outcomes.items) (took_all _ _ _ was.1 (omega (arith, c.loop-one.one-iterator.rest.ok.0, c.in-None.ensures.steps))) was.0)
