use Rattle.std.proofs.Common.{◌≡◌}
use Rattle.raven_serve.specs.Fronts.{SamePass}
use Rattle.raven_serve.proofs.pump.batches.Given as goal

abbrev pub invariant-loop : goal.invariant-loop
invariant-loop g l = record {
  own : l.pass.turn ≡ l.turn.turn;
  same : SamePass l.fn.pass l.pass;
}
