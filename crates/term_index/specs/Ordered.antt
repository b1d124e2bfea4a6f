-- The values of a field in an order.
use Rattle.std.specs.Prelude.{ℕ, List, [], Bool}
use Rattle.std.specs.declared.cmp.Ordering.{Ordering}
use Rattle.std.specs.FinMap.{entries}
use Rattle.std.specs.Map.{lookup}
use Rattle.std.specs.Option.{option_map_or}
use Rattle.std.specs.Str.{bytes_eq}
use Rattle.spec_data.specs.Scalars.{Scalar}
use Rattle.spec_query.specs.Sorting.{turned, value_cmp}
use Rattle.term_index.specs.Columns.{Columns}

-- of a field, the folded ids with their values, in the order of the ids
abbrev pub values_named : List ℕ → Columns → List (List ℕ × Scalar)
values_named field cs = option_map_or entries (lookup (bytes_eq field) cs) []

-- as a key of an order compares values: numbers, or text forms, turned or not
abbrev pub by_value : Bool → Bool → (List ℕ × Scalar) → (List ℕ × Scalar) → Ordering
by_value long desc a b = turned desc (value_cmp long a.1 b.1)
