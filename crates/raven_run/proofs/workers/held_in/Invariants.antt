use Rattle.std.proofs.Common.{◌≡◌, ◌==◌, drop, find}
use Rattle.raven_run.specs.Holding.{NamedBatch}
use Rattle.raven_run.proofs.workers.held_in.Given as goal

abbrev pub invariant-loop-one : goal.invariant-loop-one
invariant-loop-one l = find (λ (b : NamedBatch). b.worker == l.worker) (drop l.one-index l.held) ≡ find (λ (b : NamedBatch). b.worker == l.worker) l.held
