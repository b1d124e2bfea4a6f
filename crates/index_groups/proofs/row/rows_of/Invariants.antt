use Rattle.std.proofs.Common.{◌≡◌, [], map}
use Rattle.index_groups.specs.Cells.{row_from}
use Rattle.index_groups.proofs.row.rows_of.Given as goal

abbrev pub invariant-loop-group : goal.invariant-loop-group
invariant-loop-group l = l.rows ≡ map (λ g. row_from g.0 g.1 [] l.plan) l.yielded
