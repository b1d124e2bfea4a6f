use Rattle.std.proofs.Common.{arith, sym, subst, ◌++◌, ◌∷◌, []}
use Rattle.std.specs.List.{AllZip}
use Rattle.raven_crew.proofs.Zips.{zip_push, took_one}
use Rattle.raven_crew.specs.Beginnings.{IsBegun}
use Rattle.raven_crew.proofs.together.start_all.Goals as goal

pub loop-job-preserved : goal.loop-job-preserved
loop-job-preserved g c = let was = c.loop-job.invariant in let step = c.in-Some.ensures.steps in let pushed = c.push_reserved.ensures in (
  subst (λ l. AllZip (IsBegun g.J.Job.done) (c.loop-job.yielded ++ c.in-Some.job ∷ []) l) (sym pushed.items) (zip_push (IsBegun g.J.Job.done) _ _ c.in-Some.job c.start.result was.0 c.start.ensures),
  took_one _ _ _ _ c.in-Some.job was.1 step.0,
  omega (arith, was.2, step.1, pushed.len, pushed.capacity),
)
