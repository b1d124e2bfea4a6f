use Rattle.std.proofs.Common.{◌≡◌, drop}
use Rattle.raven_crew.specs.Outcomes.{outputs_in}
use Rattle.raven_crew.proofs.outcomes.are_returned.Given as goal

abbrev pub invariant-loop-outcome : goal.invariant-loop-outcome
invariant-loop-outcome g l = record {
  left : outputs_in l.outcomes ≡ outputs_in (drop l.outcome-index l.outcomes);
}
