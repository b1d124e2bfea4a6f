-- Rows by their folded ids, and the rows of some collections.
use Rattle.std.specs.Prelude.{ℕ, List, [], ◌∷◌, Bool, if◌then◌else◌, map}
use Rattle.std.specs.Str.{bytes_eq}
use Rattle.std.specs.List.{list_any}
use Rattle.std.specs.FinMap.{FinMap, insert, remove, from_entries}
use Rattle.spec_data.specs.Folding.{key_cmp}
use Rattle.spec_data.specs.Rows.{Row, key, is_document}

-- the recorded documents by their folded ids
abbrev pub Table : Type 0
Table = FinMap key_cmp Row

-- the table of rows of which no two have one id
abbrev pub table_of : List Row → Table
table_of rows = from_entries (map (λ r. (key r, r)) rows)

-- the collections that an index reads
abbrev pub Scope : Type 0
Scope = List (List ℕ)

abbrev pub in_scope : Scope → Row → Bool
in_scope scope r = list_any (bytes_eq r.collection) scope

-- a document goes in, and the id of a tombstone goes out
abbrev pub note_row : Table → Row → Table
note_row T r = if is_document r then insert T (key r) r else remove T (key r)

abbrev pub note_rows : Table → List Row → Table
note_rows T [] = T
note_rows T (r ∷ rows) = note_rows (note_row T r) rows
