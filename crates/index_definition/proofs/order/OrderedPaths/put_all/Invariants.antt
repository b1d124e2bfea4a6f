use Rattle.std.proofs.Common.{◌≡◌, ◌≤◌, drop, length}
use Rattle.index_definition.specs.Order.{with_paths}
use Rattle.index_definition.proofs.order.OrderedPaths.put_all.Given as goal

abbrev pub invariant-loop-i : goal.invariant-loop-i
invariant-loop-i l = record {
  within : l.i ≤ length l.paths;
  so_far : l.self ≡ with_paths (drop l.i l.paths) l.initial.self;
}

abbrev pub decreases-loop-i : goal.decreases-loop-i
decreases-loop-i l = l.i
