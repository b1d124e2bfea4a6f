use Rattle.std.proofs.Common.{◌≡◌, drop, map, []}
use Rattle.spec_query.specs.Results.{row_members}
use Rattle.map_stage.specs.FieldView.{field_view}
use Rattle.rql_results.proofs.rows.all_members.Given as goal

abbrev pub invariant-loop-field : goal.invariant-loop-field
invariant-loop-field l = row_members (map field_view (drop l.field-index l.field-items)) l.members ≡ row_members l.row []
