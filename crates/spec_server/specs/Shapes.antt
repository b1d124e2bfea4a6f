-- What a query on a collection asks of an automatic index.
use Rattle.std.specs.Prelude.{ℕ, List, [], ◌∷◌, ◌++◌, true, false, Option, Some, None, if◌then◌else◌}
use Rattle.std.specs.List.{filter_map}
use Rattle.spec_data.specs.Members.{Path}
use Rattle.spec_query.specs.Fields.{asked_fields, selected_fields}
use Rattle.spec_query.specs.Query.{Field, At, Count, Sum, Query, is_empty}
use Rattle.spec_index.specs.Optimiser.{Shape, in_order}

-- the path of a field, if it is one
abbrev pub path_in : Field → Option Path
path_in (At path) = Some path
path_in Count = None
path_in (Sum path) = None

-- the path of what is summed, if it is a sum
abbrev pub sum_in : Field → Option Path
sum_in (At path) = None
sum_in Count = None
sum_in (Sum path) = Some path

-- the paths of its condition and of its order
abbrev pub plain_shape : List ℕ → Query → Shape
plain_shape collection q = record { collection = collection; grouped = false; groups = []; fields = in_order (filter_map path_in (asked_fields q)) }

-- its groups, and all that it sums
abbrev pub grouped_shape : List ℕ → Query → Shape
grouped_shape collection q = record {
  collection = collection;
  grouped = true;
  groups = in_order q.groups;
  fields = in_order (filter_map sum_in (asked_fields q ++ selected_fields q));
}

abbrev pub shape_asked : List ℕ → Query → Shape
shape_asked collection q = if is_empty q.groups then plain_shape collection q else grouped_shape collection q
