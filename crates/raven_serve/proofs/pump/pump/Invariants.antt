use Rattle.std.proofs.Common.{◌≡◌}
use Rattle.raven_serve.specs.Fronts.{SamePass}
use Rattle.raven_serve.proofs.pump.pump.Given as goal

abbrev pub invariant-loop : goal.invariant-loop
invariant-loop g l = record {
  can : (goal.iterator-loop g).can_next l.iterator';
  finite : (goal.iterator-loop g).is_finite l.iterator';
  own : l.pass.turn ≡ l.turn.turn;
  same : SamePass l.initial.pass l.pass;
}
