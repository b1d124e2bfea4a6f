-- What a reduce gives for entries: one row for each group of entries that have the same key.
use Rattle.std.specs.Prelude.{◌≡◌, ◌++◌, ℕ, List, [], ◌∷◌, filter, map}
use Rattle.std.specs.declared.cmp.Ordering.{Ordering}
use Rattle.std.specs.Ordering.{is_eq}
use Rattle.std.specs.Option.{unwrap_or}
use Rattle.std.specs.List.{zip}
use Rattle.std.specs.FinMap.{FinMap, from_entries, values}
use Rattle.std.specs.Cmp.Lexicographic.{slice_cmp}
use Rattle.spec_data.specs.Rising.{put}
use Rattle.spec_data.specs.Scalars.{Scalar, nothing, order}
use Rattle.index_tree.specs.Meaning.{Fields, field_named}
use Rattle.index_tree.specs.declared.reduce_query.FoldMember.{FoldMember}
use Rattle.index_tree.specs.declared.reduce_query.FoldValue.{FoldValue}
use Rattle.index_tree.specs.declared.reduce_query.FoldValue.TheVariants as value
use Rattle.index_tree.specs.declared.reduce_query.ReduceQuery.{ReduceQuery}
use Rattle.spec_index.specs.Folds.{as_one, quotient_of, sum_of}

-- the value of that name, null if there is none
abbrev pub value_at : List ℕ → Fields → Scalar
value_at name fields = unwrap_or (field_named name fields) nothing

-- GROUPS

-- the parts of an entry's key
abbrev pub Key : Type 0
Key = List Scalar

abbrev pub key_of : List (List ℕ) → Fields → Key
key_of names entry = map (λ name. value_at name entry) names

-- part by part; only equal keys are alike
abbrev pub key_order : Key → Key → Ordering
key_order = slice_cmp order

-- the entries that have the key
abbrev pub group : List (List ℕ) → Key → List Fields → List Fields
group names key entries = filter (λ e. is_eq (key_order key (key_of names e))) entries

-- ROWS

abbrev pub column : List ℕ → List Fields → List Scalar
column name entries = map (value_at name) entries

-- a part of the key, the values of a field of the group's entries as one, or the quotient of the sums of two fields
abbrev pub member_value : List (List ℕ) → Key → List Fields → FoldValue → Scalar
member_value names key entries (value.Key name) = value_at name (zip names key)
member_value names key entries (value.Fold kind var field) = as_one kind (column field entries)
member_value names key entries (value.Quotient var field by_var by) = quotient_of (sum_of (column field entries)) (sum_of (column by entries))

-- each member goes in at its name
abbrev pub row_with : List (List ℕ) → Key → List Fields → Fields → List FoldMember → Fields
row_with names key entries row [] = row
row_with names key entries row (m ∷ more) = row_with names key entries (put m.name (member_value names key entries m.value) row) more

-- the row of the entries that have the key
abbrev pub row_of : ReduceQuery → List Fields → Key → Fields
row_of query entries key = row_with query.key key (group query.key key entries) [] query.members

-- the row of each key that an entry has
abbrev pub rows_of : ReduceQuery → List Fields → FinMap key_order Fields
rows_of query entries = from_entries (map (λ e. (key_of query.key e, row_of query entries (key_of query.key e))) entries)

-- THE REDUCE: the rows in the order of their keys
abbrev pub reduced : ReduceQuery → List Fields → List Fields
reduced query entries = values (rows_of query entries)

-- THE SAME ENTRIES IN ANOTHER ORDER: the first is somewhere in the second list, and so on with the others
abbrev pub IsReordered : {A : Type 0} → List A → List A → Type 0
IsReordered [] ys = ys ≡ []
IsReordered {A} (x ∷ xs) ys = (before : List A) × ((after : List A) × ((ys ≡ before ++ x ∷ after) × IsReordered xs (before ++ after)))
