use Rattle.std.proofs.Common.{◌≡◌, ◌+◌, ◌≤◌, ◌++◌, vec_len, vec_capacity}
use Rattle.std.specs.Vec.Iter.{into_iter_items, into_iter_len}
use Rattle.raven_crew.specs.Outcomes.{returned_in}
use Rattle.raven_crew.proofs.outcomes.returned_of.Given as goal

abbrev pub invariant-loop-outcome : goal.invariant-loop-outcome
invariant-loop-outcome g l =
    (l.returned.items ≡ returned_in l.yielded) × (l.fn.outcomes.items ≡ l.yielded ++ into_iter_items l.outcome-iterator) × (vec_len l.returned + into_iter_len l.outcome-iterator ≤ vec_capacity l.returned)
