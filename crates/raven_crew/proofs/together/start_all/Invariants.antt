use Rattle.std.proofs.Common.{◌≡◌, ◌+◌, ◌≤◌, ◌++◌, vec_len, vec_capacity}
use Rattle.std.specs.List.{AllZip}
use Rattle.std.specs.Vec.Iter.{into_iter_items, into_iter_len}
use Rattle.raven_crew.specs.Beginnings.{IsBegun}
use Rattle.raven_crew.proofs.together.start_all.Given as goal

abbrev pub invariant-loop-job : goal.invariant-loop-job
invariant-loop-job g l =
    AllZip (IsBegun g.J.Job.done) l.yielded l.begun.items × (l.fn.jobs.items ≡ l.yielded ++ into_iter_items l.job-iterator)
    × (vec_len l.begun + into_iter_len l.job-iterator ≤ vec_capacity l.begun)
