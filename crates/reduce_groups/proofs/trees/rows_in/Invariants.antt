use Rattle.std.proofs.Common.{◌≡◌, ◌++◌}
use Rattle.reduce_groups.specs.Groups.{rows_in}
use Rattle.reduce_groups.proofs.trees.rows_in.Given as goal

abbrev pub invariant-loop-pair : goal.invariant-loop-pair
invariant-loop-pair g l = l.rows.items ++ rows_in g.F.Fold.lifted g.F.Fold.none g.F.Fold.merged l.pair-iterator ≡ rows_in g.F.Fold.lifted g.F.Fold.none g.F.Fold.merged l.trees
