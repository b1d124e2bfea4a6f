use Rattle.std.proofs.Common.{length, ◌-◌, ◌+◌, ◌≤◌, ◌≡◌}
use Rattle.raven_ports.specs.Reported.{preceded}
use Rattle.raven_ports.proofs.read.read_all.Given as goal

abbrev pub invariant-loop-buf : goal.invariant-loop-buf
invariant-loop-buf g l = record {
  taken : (g.S.Source.state l.fn.source).left ≡ preceded l.all.items (g.S.Source.state l.source).left;
  count : length l.all.items ≤ l.most + 1;
  later : (g.S.Source.state l.fn.source).faults ≤ (g.S.Source.state l.source).faults;
}

abbrev pub decreases-loop-buf : goal.decreases-loop-buf
decreases-loop-buf g l = l.most + 1 - length l.all.items
