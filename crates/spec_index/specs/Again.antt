-- Reduces whose rows can be reduced once more, together with other rows and entries.
use Rattle.std.specs.Prelude.{ℕ, List, [], ◌∷◌, Bool, true, false, not, ◌&&◌}
use Rattle.std.specs.List.{list_all, list_any}
use Rattle.std.specs.Str.{bytes_eq}
use Rattle.index_tree.specs.declared.reduce_query.FoldKind.TheVariants as kind
use Rattle.index_tree.specs.declared.reduce_query.FoldMember.{FoldMember}
use Rattle.index_tree.specs.declared.reduce_query.FoldValue.{FoldValue}
use Rattle.index_tree.specs.declared.reduce_query.FoldValue.TheVariants as value
use Rattle.index_tree.specs.declared.reduce_query.ReduceQuery.{ReduceQuery}

abbrev pub is_sum_of : List ℕ → FoldValue → Bool
is_sum_of field (value.Fold kind.Sum var other) = bytes_eq field other
is_sum_of field other = false

-- a member of the name of the field is the sum of the field
abbrev pub is_summed : List FoldMember → List ℕ → Bool
is_summed members field = list_any (λ m. bytes_eq field m.name && is_sum_of field m.value) members

-- a part of the key keeps its name, a fold folds the field of its own name, and a quotient is that of two sums that are members too
abbrev pub keeps_name : List (List ℕ) → List FoldMember → List ℕ → FoldValue → Bool
keeps_name key members name (value.Key part) = list_any (bytes_eq part) key && bytes_eq part name
keeps_name key members name (value.Fold kind var field) = bytes_eq field name
keeps_name key members name (value.Quotient var field by_var by) = is_summed members field && is_summed members by

abbrev pub gives_part : List ℕ → FoldValue → Bool
gives_part part (value.Key other) = bytes_eq part other
gives_part part other = false

-- each part of the key has a member
abbrev pub gives_key : List (List ℕ) → List FoldMember → Bool
gives_key key members = list_all (λ part. list_any (λ m. gives_part part m.value) members) key

-- no two members have one name
abbrev pub are_apart : List FoldMember → Bool
are_apart [] = true
are_apart (m ∷ more) = not (list_any (λ n. bytes_eq m.name n.name) more) && are_apart more

-- its rows have the fields of the entries that it reads, and in them what it needs of these
abbrev pub reduces_again : ReduceQuery → Bool
reduces_again query = are_apart query.members && (list_all (λ m. keeps_name query.key query.members m.name m.value) query.members && gives_key query.key query.members)
