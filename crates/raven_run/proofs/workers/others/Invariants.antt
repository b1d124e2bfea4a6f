use Rattle.std.proofs.Common.{◌≡◌, ◌++◌, drop}
use Rattle.raven_run.specs.Holding.{of_others}
use Rattle.raven_run.proofs.workers.others.Given as goal

abbrev pub invariant-loop-one : goal.invariant-loop-one
invariant-loop-one l = l.new.items ++ of_others l.worker (drop l.one-index l.held) ≡ of_others l.worker l.held
