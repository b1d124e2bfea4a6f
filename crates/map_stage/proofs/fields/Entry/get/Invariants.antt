use Rattle.std.proofs.Common.{◌≡◌, map, drop}
use Rattle.index_tree.specs.Meaning.{field_named}
use Rattle.map_stage.specs.FieldView.{field_view}
use Rattle.map_stage.proofs.fields.Entry.get.Given as goal

-- what is left to look at has what all have
abbrev pub invariant-loop-field : goal.invariant-loop-field
invariant-loop-field l = field_named l.name (map field_view (drop l.field-index l.field-items)) ≡ field_named l.name (map field_view l.field-items)
