use Rattle.std.proofs.Common.{◌≡◌, ◌++◌}
use Rattle.index_definition.specs.Order.{paths_of}
use Rattle.index_definition.proofs.order.OrderedPaths.into_paths.Given as goal

abbrev pub invariant-loop-pair : goal.invariant-loop-pair
invariant-loop-pair l = l.paths ++ paths_of l.pair-iterator.rest.items ≡ l.fn.self
