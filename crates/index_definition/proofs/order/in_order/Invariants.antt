use Rattle.std.proofs.Common.{◌≡◌, ◌≤◌, drop, length, map}
use Rattle.spec_index.specs.Optimiser.{in_order}
use Rattle.index_definition.proofs.order.in_order.Given as goal

abbrev pub invariant-loop-i : goal.invariant-loop-i
invariant-loop-i l = record {
  within : l.i ≤ length l.paths;
  so_far : l.found ≡ in_order (map (λ p. p.now) (drop l.i l.paths));
}

abbrev pub decreases-loop-i : goal.decreases-loop-i
decreases-loop-i l = l.i
