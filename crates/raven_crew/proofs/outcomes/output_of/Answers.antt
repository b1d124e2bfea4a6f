use Rattle.std.proofs.Common.{subst}
use Rattle.raven_crew.specs.Outcomes.{IsOutcome}
use Rattle.raven_crew.proofs.outcomes.output_of.Goals as goal

pub returns-in-Err : goal.returns-in-Err
returns-in-Err g c = λ job t. subst (λ j. g.J.Job.done j c.run.result) (subst (λ o. IsOutcome g.J.Job.done job o) c.in-Err.is t) c.run.ensures
