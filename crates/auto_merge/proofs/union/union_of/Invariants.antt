use Rattle.std.proofs.Common.{◌≡◌, ◌≤◌, drop, length, map}
use Rattle.index_definition.specs.ShapeView.{shape_view}
use Rattle.spec_index.specs.Optimiser.{in_order}
use Rattle.auto_merge.proofs.Unions.{others_fields}
use Rattle.auto_merge.proofs.union.union_of.Given as goal

abbrev pub invariant-loop-i : goal.invariant-loop-i
invariant-loop-i l = record {
  within : l.i ≤ length l.others;
  so_far : l.fields ≡ in_order (others_fields (shape_view l.shape) (drop l.i (map (λ s. shape_view s.now) l.others)));
}

abbrev pub decreases-loop-i : goal.decreases-loop-i
decreases-loop-i l = l.i
