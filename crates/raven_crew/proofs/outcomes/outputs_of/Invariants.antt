use Rattle.std.proofs.Common.{◌≡◌, ◌+◌, ◌≤◌, ◌++◌, vec_len, vec_capacity}
use Rattle.std.specs.List.{AllZip}
use Rattle.std.specs.Vec.Iter.{into_iter_items, into_iter_len}
use Rattle.raven_crew.specs.Outcomes.{IsOutcome}
use Rattle.raven_crew.proofs.outcomes.outputs_of.Given as goal

abbrev pub invariant-loop-one : goal.invariant-loop-one
invariant-loop-one g l =
    AllZip (λ r output. (job : g.row.J.Denot) → IsOutcome g.J.Job.done job r → g.J.Job.done job output) l.yielded l.outputs.items × (l.fn.outcomes.items ≡ l.yielded ++ into_iter_items l.one-iterator)
    × (vec_len l.outputs + into_iter_len l.one-iterator ≤ vec_capacity l.outputs)
