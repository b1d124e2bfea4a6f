-- What a `Shape` of the program is.
use Rattle.std.specs.Prelude.{ℕ, List, [], true, false, Option, Some, None}
use Rattle.spec_data.specs.Members.{Path}
use Rattle.spec_index.specs.Optimiser as is
use Rattle.index_definition.specs.declared.shape.Shape.{Shape}

abbrev pub shape_by : List ℕ → Option (List Path) → List Path → is.Shape
shape_by collection None fields = record { collection = collection; grouped = false; groups = []; fields = fields }
shape_by collection (Some groups) fields = record { collection = collection; grouped = true; groups = groups; fields = fields }

abbrev pub shape_view : Shape → is.Shape
shape_view shape = shape_by shape.collection shape.groups shape.fields
