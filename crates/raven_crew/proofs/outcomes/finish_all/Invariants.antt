use Rattle.std.proofs.Common.{◌≡◌, ◌+◌, ◌≤◌, ◌++◌, vec_len, vec_capacity}
use Rattle.std.specs.List.{AllZip}
use Rattle.std.specs.Vec.Iter.{into_iter_items, into_iter_len}
use Rattle.raven_crew.specs.Outcomes.{IsOutcome}
use Rattle.raven_crew.specs.Beginnings.{IsBegun}
use Rattle.raven_crew.proofs.outcomes.finish_all.Given as goal

abbrev pub invariant-loop-one : goal.invariant-loop-one
invariant-loop-one g l =
    AllZip (λ begun r. (job : g.row.J.Denot) → IsBegun g.J.Job.done job begun → IsOutcome g.J.Job.done job r) l.yielded l.outcomes.items × (l.fn.begun.items ≡ l.yielded ++ into_iter_items l.one-iterator)
    × (vec_len l.outcomes + into_iter_len l.one-iterator ≤ vec_capacity l.outcomes)
