use Rattle.std.proofs.Common.{◌≡◌, ◌++◌, drop, map}
use Rattle.std.specs.List.{filter_map}
use Rattle.index_definition.specs.ShapeView.{shape_view}
use Rattle.spec_index.specs.Optimiser.{slot_shape}
use Rattle.query_optimizer.proofs.widths.shapes_of.Given as goal

-- those that are left have still to be added
abbrev pub invariant-loop-slot : goal.invariant-loop-slot
invariant-loop-slot l = map (λ s. shape_view s.now) l.shapes.items ++ filter_map slot_shape (drop l.slot-index l.slots) ≡ filter_map slot_shape l.slots
