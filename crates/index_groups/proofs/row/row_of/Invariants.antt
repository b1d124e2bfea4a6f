use Rattle.std.proofs.Common.{◌≡◌, [], drop, map}
use Rattle.raven_value.specs.ScalarView.{scalar_view}
use Rattle.index_groups.specs.Cells.{row_from}
use Rattle.index_groups.proofs.row.row_of.Given as goal

abbrev pub invariant-loop-field : goal.invariant-loop-field
invariant-loop-field l = row_from (map scalar_view l.parts) l.cells l.row (drop l.field-index l.plan) ≡ row_from (map scalar_view l.parts) l.cells [] l.plan
