-- Rows of a reduce, and documents of a collection.
use Rattle.std.specs.Prelude.{ℕ, List, [], map}
use Rattle.spec_data.specs.Rows.{Row}
use Rattle.index_tree.specs.Meaning.{Fields}

-- the rows of a reduce have no ids
abbrev pub without_ids : List Fields → List (Unit {0} × Fields)
without_ids rows = map (λ fields. (tt, fields)) rows

abbrev pub ids_of_rows : List Row → List (List ℕ)
ids_of_rows rows = map (λ r. r.id) rows

-- the documents of a whole collection have no fields
abbrev pub without_fields : List Row → List (List ℕ × Fields)
without_fields rows = map (λ r. (r.id, [])) rows
