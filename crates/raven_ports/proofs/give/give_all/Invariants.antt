use Rattle.std.proofs.Common.{length, ◌≤◌}
use Rattle.raven_ports.proofs.Pieces.{Continues}
use Rattle.raven_ports.proofs.give.give_all.Given as goal

abbrev pub invariant-loop-rest : goal.invariant-loop-rest
invariant-loop-rest g l = record {
  given : Continues (g.O.Sink.state l.fn.sink).held (g.O.Sink.state l.sink).held l.rest l.bytes;
  later : (g.O.Sink.state l.fn.sink).faults ≤ (g.O.Sink.state l.sink).faults;
  gave : g.O.Sink.gave l.fn.sink l.sink;
}

abbrev pub decreases-loop-rest : goal.decreases-loop-rest
decreases-loop-rest g l = length l.rest
