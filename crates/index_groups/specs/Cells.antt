-- How the row of a group is made of its key and of what its fields come to.
use Rattle.std.specs.Prelude.{ℕ, suc, ℤ, pos, negsuc, ◌^◌, int_div, nat_lt, List, [], ◌∷◌, Bool, true, false, ◌&&◌, if◌then◌else◌, map, option_map, slice_get}
use Rattle.std.specs.Option.{unwrap_or}
use Rattle.std.specs.Ordering.{int_eq}
use Rattle.std.specs.Str.{bytes_eq}
use Rattle.spec_data.specs.Rising.{put}
use Rattle.spec_data.specs.Scalars.{Scalar, nothing, number}
use Rattle.index_tree.specs.Meaning.{Fields}
use Rattle.index_tree.specs.declared.reduce_query.FoldKind.{FoldKind}
use Rattle.index_tree.specs.declared.reduce_query.FoldKind.TheVariants as kind
use Rattle.index_tree.specs.declared.reduce_query.FoldMember.{FoldMember}
use Rattle.index_tree.specs.declared.reduce_query.FoldValue.{FoldValue}
use Rattle.index_tree.specs.declared.reduce_query.FoldValue.TheVariants as value
use Rattle.index_tree.specs.declared.reduce_query.ReduceQuery.{ReduceQuery}
use Rattle.reduce_folds.specs.declared.field_fold.FieldFold.{FieldFold}
use Rattle.reduce_folds.specs.Cells.{Cell}
use Rattle.spec_index.specs.Folds.{addend}
use Rattle.spec_index.specs.Rows.{Key}
use Rattle.index_groups.specs.declared.plan.RowField.{RowField}
use Rattle.index_groups.specs.declared.plan.Source.{Source}
use Rattle.index_groups.specs.declared.plan.Source.TheVariants as source

-- WHAT THE TREES FOLD

abbrev pub is_same_kind : FoldKind → FoldKind → Bool
is_same_kind kind.Sum kind.Sum = true
is_same_kind kind.Min kind.Min = true
is_same_kind kind.Max kind.Max = true
is_same_kind a b = false

abbrev pub is_same : FieldFold → FieldFold → Bool
is_same a b = is_same_kind a.kind b.kind && bytes_eq a.field b.field

abbrev pub fold_by : FoldKind → List ℕ → FieldFold
fold_by kind field = record { kind = kind; field = field }

-- with the fold, if it is not there
abbrev pub with_fold : FieldFold → List FieldFold → List FieldFold
with_fold fold [] = fold ∷ []
with_fold fold (f ∷ fs) = if is_same fold f then f ∷ fs else f ∷ with_fold fold fs

-- with the folds that a member needs: a quotient needs its two sums
abbrev pub with_needed : FoldValue → List FieldFold → List FieldFold
with_needed (value.Key name) folds = folds
with_needed (value.Fold kind var field) folds = with_fold (fold_by kind field) folds
with_needed (value.Quotient var field by_var by) folds = with_fold (fold_by kind.Sum by) (with_fold (fold_by kind.Sum field) folds)

abbrev pub with_all_needed : List FoldMember → List FieldFold → List FieldFold
with_all_needed [] folds = folds
with_all_needed (m ∷ ms) folds = with_all_needed ms (with_needed m.value folds)

-- what the members need, each once
abbrev pub folds_of : List FoldMember → List FieldFold
folds_of members = with_all_needed members []

-- WHERE EACH FIELD OF A ROW COMES FROM

-- the first place at which the test passes, or the length
abbrev pub place_of : {A : Type 0} → (A → Bool) → List A → ℕ
place_of test [] = 0
place_of test (x ∷ xs) = if test x then 0 else suc (place_of test xs)

abbrev pub fold_place : FoldKind → List ℕ → List FieldFold → ℕ
fold_place kind field folds = place_of (is_same (fold_by kind field)) folds

abbrev pub source_of : List (List ℕ) → List FieldFold → FoldValue → Source
source_of names folds (value.Key name) = source.Part (place_of (bytes_eq name) names)
source_of names folds (value.Fold kind var field) = source.Cell (fold_place kind field folds)
source_of names folds (value.Quotient var field by_var by) = source.Quotient (record { sum = fold_place kind.Sum field folds; by = fold_place kind.Sum by folds })

abbrev pub field_of : List (List ℕ) → List FieldFold → FoldMember → RowField
field_of names folds m = record { name = m.name; source = source_of names folds m.value }

abbrev pub plan_of : ReduceQuery → List RowField
plan_of query = map (field_of query.key (folds_of query.members)) query.members

-- THE ROW

abbrev pub part_at : Key → ℕ → Scalar
part_at key place = unwrap_or (slice_get key place) nothing

abbrev pub cell_at : List Cell → ℕ → Scalar
cell_at cells place = unwrap_or (option_map (λ (c : Cell). c.1) (slice_get cells place)) nothing

-- from -2^127 up to 2^127 - 1; `negsuc n` is -(n + 1)
abbrev pub is_within : ℤ → Bool
is_within (pos n) = nat_lt n (2 ^ 127)
is_within (negsuc n) = nat_lt n (2 ^ 127)

-- one sum divided by another, cut towards zero; null if the second is 0, or if the quotient has more than 128 bits, as that of no two sums of a group has
abbrev pub divided : ℤ → ℤ → Scalar
divided m n = if int_eq n (pos 0) then nothing else if is_within (int_div m n) then number (int_div m n) else nothing

abbrev pub value_from : Key → List Cell → Source → Scalar
value_from key cells (source.Part place) = part_at key place
value_from key cells (source.Cell place) = cell_at cells place
value_from key cells (source.Quotient q) = divided (addend (cell_at cells q.sum)) (addend (cell_at cells q.by))

-- each field goes in at its name
abbrev pub row_from : Key → List Cell → Fields → List RowField → Fields
row_from key cells row [] = row
row_from key cells row (f ∷ fields) = row_from key cells (put f.name (value_from key cells f.source) row) fields
