use Rattle.std.proofs.Common.{◌∙◌, ap, refl, sym}
use Rattle.raven_crew.proofs.Zips.{all_back}
use Rattle.raven_crew.specs.Outcomes.{outputs_in}
use Rattle.raven_crew.proofs.together.sorted.Goals as goal

pub returns-in-Ok : goal.returns-in-Ok
returns-in-Ok g c = λ jobs z. c.in-Ok.ensures ∙ all_back g.J.Job.done jobs c.args.outcomes.items z (ap outputs_in (sym c.deref.ensures.value) ∙ c.if-are_returned.ensures refl)
