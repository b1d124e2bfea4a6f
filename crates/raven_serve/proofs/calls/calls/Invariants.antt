use Rattle.std.proofs.Common.{◌≡◌}
use Rattle.raven_serve.proofs.Chaining.{Going}
use Rattle.raven_serve.proofs.calls.calls.Given as goal

abbrev pub invariant-loop : goal.invariant-loop
invariant-loop g l = record {
  can : (goal.iterator-loop g).can_next l.iterator';
  finite : (goal.iterator-loop g).is_finite l.iterator';
  going : Going g.A.Answering.answers g.A.Answering.keeps l.fn.answerer (g.D.Door.state l.fn.door) l.answerer (g.D.Door.state l.door);
  kept : g.A.Answering.keeps l.fn.answerer l.answerer;
}
