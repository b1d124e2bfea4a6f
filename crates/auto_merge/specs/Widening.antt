-- What takes in the fields of others, for a list of shapes.
use Rattle.std.specs.Prelude.{List, ◌++◌, Option, Some, None, flat_map, unwrap_or, if◌then◌else◌}
use Rattle.spec_data.specs.Members.{Path}
use Rattle.spec_index.specs.Optimiser.{Shape, fields_alike, in_order, is_too_wide}

-- those of the shape and of all that have the same collection and groups
abbrev pub all_fields : Shape → List Shape → List Path
all_fields shape others = in_order (shape.fields ++ flat_map (λ s. fields_alike shape (Some s)) others)

-- all these fields, if one index can have them
abbrev pub union_by : Shape → List Shape → Option (List Path)
union_by shape others = if is_too_wide (all_fields shape others) then None else Some (all_fields shape others)

abbrev pub fields_by : Shape → List Path → Shape
fields_by shape fields = record { collection = shape.collection; grouped = shape.grouped; groups = shape.groups; fields = fields }

-- the shape that takes in the fields of the others or, if that is too wide, the shape itself
abbrev pub widened_by : Shape → List Shape → Shape
widened_by shape others = fields_by shape (unwrap_or (union_by shape others) shape.fields)
