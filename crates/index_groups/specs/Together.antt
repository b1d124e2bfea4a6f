-- The entries of several indexes with one reduce, together.
use Rattle.std.specs.Prelude.{◌≡◌, List, [], ◌∷◌, flat_map, map}
use Rattle.std.specs.FinMap.{entries, from_entries, values}
use Rattle.index_tree.specs.Meaning.{Fields}
use Rattle.index_tree.specs.declared.reduce_query.ReduceQuery.{ReduceQuery}
use Rattle.map_stage.specs.Words.{HasWords}
use Rattle.reduce_tree.specs.Folding.{fold_of}
use Rattle.reduce_folds.specs.Cells as cells
use Rattle.reduce_folds.specs.Cells.{Cell, merged_row, no_row}
use Rattle.spec_index.specs.Rows.{Key, group, key_of, key_order}
use Rattle.index_groups.specs.Cells.{folds_of}
use Rattle.index_groups.specs.Groups.{Grouped}

-- what the entries that have a key come to
abbrev pub cells_at : ReduceQuery → List Fields → Key → List Cell
cells_at query es key = fold_of (cells.row_of (folds_of query.members)) (no_row (folds_of query.members)) merged_row (group query.key key es)

-- each key that an entry has, in order, with what the entries that have it come to
abbrev pub cells_of : ReduceQuery → List Fields → List (Key × List Cell)
cells_of query es = entries (from_entries {R = key_order} (map (λ e. (key_of query.key e, cells_at query es (key_of query.key e))) es))

-- the entries of all parts, part by part
abbrev pub all_entries : List Grouped → List Fields
all_entries parts = flat_map (λ g. values g.entries) parts

-- the parts are grouped by this reduce
abbrev pub AreBy : ReduceQuery → List Grouped → Type 0
AreBy query [] = Unit {0}
AreBy query (g ∷ gs) = (g.query ≡ query) × AreBy query gs

-- each number in these entries has 64 bits
abbrev pub AreOfWords : List Fields → Type 0
AreOfWords [] = Unit {0}
AreOfWords (e ∷ es) = HasWords e × AreOfWords es
