use Rattle.std.proofs.Common.{◌≡◌, ◌≤◌, ◌-◌, length}
use Rattle.spec_index.specs.Optimiser.{with_name}
use Rattle.query_optimizer.proofs.Listed.{with_from}
use Rattle.query_optimizer.proofs.naming.place_of.Given as goal

abbrev pub invariant-loop-i : goal.invariant-loop-i
invariant-loop-i l = record {
  within : l.i ≤ length l.names;
  so_far : with_name l.name l.names ≡ with_from l.i l.name l.names;
}

abbrev pub decreases-loop-i : goal.decreases-loop-i
decreases-loop-i l = length l.names - l.i
