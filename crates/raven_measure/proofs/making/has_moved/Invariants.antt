use Rattle.std.proofs.Common.{◌≡◌, drop, not}
use Rattle.std.specs.Prelude.{◌==◌}
use Rattle.std.specs.List.{list_any}
use Rattle.raven_measure.proofs.making.has_moved.Given as goal

abbrev pub invariant-loop-one : goal.invariant-loop-one
invariant-loop-one l = record {
  left : list_any (λ p. not (p.from == p.to)) l.pumped ≡ list_any (λ p. not (p.from == p.to)) (drop l.one-index l.pumped);
}
