use Rattle.std.proofs.Common.{◌≡◌}
use Rattle.index_tree.specs.Evaluate.{value_of}
use Rattle.map_stage.specs.Reached.{bindings_of}
use Rattle.map_stage.proofs.scene.value_of.Given as goal

abbrev pub invariant-loop-binding : goal.invariant-loop-binding
invariant-loop-binding l = value_of l.name (bindings_of l.binding-iterator.iter.rest.now) ≡ value_of l.name (bindings_of l.bound)
