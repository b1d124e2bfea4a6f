use Rattle.std.proofs.Common.{◌≡◌, slice_get}
use Rattle.reduce_groups.specs.Groups.{rows_in}
use Rattle.reduce_groups.proofs.trees.row_at.Given as goal

-- what is left to walk over has at the place that is left what all have at theirs
abbrev pub invariant-loop-pair : goal.invariant-loop-pair
invariant-loop-pair g l = slice_get (rows_in g.F.Fold.lifted g.F.Fold.none g.F.Fold.merged l.pair-iterator) l.left ≡ slice_get (rows_in g.F.Fold.lifted g.F.Fold.none g.F.Fold.merged l.trees) l.place
