-- What folds give is what the definition gives for the values of each field.
use Rattle.std.proofs.Common.{◌≡◌, ℕ, ◌+◌, ◌*◌, ◌≤◌, ◌<◌, ◌-◌, ◌^◌, length, arith, ℤ, pos, negsuc, suc, true, false, cond, ◌+ℤ◌, List, [], ◌∷◌, map, refl, sym, ap, ◌∙◌}
use Rattle.std.specs.Int.{int_wrap, w128}
use Rattle.std.specs.Int.RustNames.{unsigned_abs}
use Rattle.std.proofs.lemmas.Int.{int_wrap-add_left, int_wrap-add_right, int_wrap_fits, fits_signed_from_abs}
use Rattle.std.proofs.lemmas.Bool.{ltb-true}
use Rattle.std.proofs.lemmas.List.{length-map}
use Rattle.std.proofs.Math.Dec.{ltb}
use Rattle.std.proofs.Math.IntN.{sub_ℕ}
use Rattle.spec_data.specs.Scalars.{Scalar, number}
use Rattle.index_tree.specs.Meaning.{Fields}
use Rattle.index_tree.specs.declared.reduce_query.FoldKind.{FoldKind}
use Rattle.index_tree.specs.declared.reduce_query.FoldKind.TheVariants as kind
use Rattle.reduce_tree.specs.Folding.{fold_of}
use Rattle.reduce_folds.specs.declared.field_fold.FieldFold.{FieldFold}
use Rattle.reduce_folds.specs.Cells.{Cell, cell_of, lifted, merged_cell, merged_row, no_cell, no_row, no_value, row_of}
use Rattle.reduce_folds.specs.Exact.{AreWords, sizes}
use Rattle.reduce_folds.specs.CellLaws.{zero_fits}
use Rattle.spec_index.specs.Folds.{addend, as_one, greatest_of, least_of, sum_of}
use Rattle.spec_index.specs.Rows.{column, value_at}

-- rows are folded field by field
abbrev cells_of : List FieldFold → List Fields → List Cell
cells_of folds entries = map (λ fold. fold_of (cell_of fold) (no_cell fold) merged_cell entries) folds

none_is : (folds : List FieldFold) → no_row folds ≡ cells_of folds []
none_is [] = refl
none_is (f ∷ fs) = ap (λ l. no_cell f ∷ l) (none_is fs)

one_more : (folds : List FieldFold) (e : Fields) (es : List Fields) → merged_row (row_of folds e) (cells_of folds es) ≡ cells_of folds (e ∷ es)
one_more [] e es = refl
one_more (f ∷ fs) e es = ap (λ l. fold_of (cell_of f) (no_cell f) merged_cell (e ∷ es) ∷ l) (one_more fs e es)

pub row_is : (folds : List FieldFold) (entries : List Fields) → fold_of (row_of folds) (no_row folds) merged_row entries ≡ cells_of folds entries
row_is folds [] = none_is folds
row_is folds (e ∷ es) = ap (merged_row (row_of folds e)) (row_is folds es) ∙ one_more folds e es

-- a sum is taken modulo 2^128
abbrev wrapped : FoldKind → List Scalar → Scalar
wrapped kind.Sum vs = number (int_wrap w128 (sum_of vs))
wrapped kind.Min vs = least_of vs
wrapped kind.Max vs = greatest_of vs

none_wrapped : (k : FoldKind) → no_value k ≡ wrapped k []
none_wrapped kind.Sum = ap number (sym zero_fits)
none_wrapped kind.Min = refl
none_wrapped kind.Max = refl

more_wrapped : (k : FoldKind) (v : Scalar) (vs : List Scalar) → merged_cell (k, lifted k v) (k, wrapped k vs) ≡ (k, wrapped k (v ∷ vs))
more_wrapped kind.Sum v vs = ap (λ n. (kind.Sum, number n)) (int_wrap-add_left w128 (addend v) (int_wrap w128 (sum_of vs)) ∙ int_wrap-add_right w128 (addend v) (sum_of vs))
more_wrapped kind.Min v vs = refl
more_wrapped kind.Max v vs = refl

fold_is : (fold : FieldFold) (entries : List Fields) → fold_of (cell_of fold) (no_cell fold) merged_cell entries ≡ (fold.kind, wrapped fold.kind (column fold.field entries))
fold_is fold [] = ap (λ v. (fold.kind, v)) (none_wrapped fold.kind)
fold_is fold (e ∷ es) = ap (merged_cell (cell_of fold e)) (fold_is fold es) ∙ more_wrapped fold.kind (value_at fold.field e) (column fold.field es)

abs_sub : (a b : ℕ) → unsigned_abs (sub_ℕ a b) ≤ a + b
abs_sub a b =
    elim (ltb a b) as (λ t. ltb a b ≡ t → unsigned_abs (cond t (negsuc (b - suc a)) (pos (a - b))) ≤ a + b) [
      | true ↦ λ e. let l : a < b = ltb-true a b e in omega (arith, l)
      | false ↦ λ e. omega arith
    ] refl

abs_add : (a b : ℤ) → unsigned_abs (a +ℤ b) ≤ unsigned_abs a + unsigned_abs b
abs_add (pos a) (pos b) = omega arith
abs_add (pos a) (negsuc b) = abs_sub a (suc b)
abs_add (negsuc a) (pos b) = let r = abs_sub b (suc a) in omega (arith, r)
abs_add (negsuc a) (negsuc b) = omega arith

abs_sum : (vs : List Scalar) → AreWords vs → unsigned_abs (sum_of vs) ≤ length vs * 9223372036854775808
abs_sum [] a = omega arith
abs_sum (v ∷ vs) a = let r = abs_sum vs a.1 in omega (arith, r, a.0, abs_add (addend v) (sum_of vs))

exact : (k : FoldKind) (vs : List Scalar) → AreWords vs → length vs < 18446744073709551616 → wrapped k vs ≡ as_one k vs
exact kind.Sum vs a l = ap number (int_wrap_fits w128 (sum_of vs) (fits_signed_from_abs w128 (sum_of vs) (omega (arith, abs_sum vs a, l))))
exact kind.Min vs a l = refl
exact kind.Max vs a l = refl

pub exact_fold : (fold : FieldFold) (entries : List Fields) → AreWords (column fold.field entries) → length entries < 2 ^ 64 →
    fold_of (cell_of fold) (no_cell fold) merged_cell entries ≡ (fold.kind, as_one fold.kind (column fold.field entries))
exact_fold fold entries a l =
    let few : length (column fold.field entries) < 18446744073709551616 = omega (arith, length-map entries (value_at fold.field), l) in
    fold_is fold entries ∙ ap (λ v. (fold.kind, v)) (exact fold.kind (column fold.field entries) a few)

abs_sizes : (vs : List Scalar) → unsigned_abs (sum_of vs) ≤ sizes vs
abs_sizes [] = omega arith
abs_sizes (v ∷ vs) = let r = abs_sizes vs in omega (arith, r, abs_add (addend v) (sum_of vs))

within : (k : FoldKind) (vs : List Scalar) → sizes vs < 170141183460469231731687303715884105728 → wrapped k vs ≡ as_one k vs
within kind.Sum vs l = ap number (int_wrap_fits w128 (sum_of vs) (fits_signed_from_abs w128 (sum_of vs) (omega (arith, abs_sizes vs, l))))
within kind.Min vs l = refl
within kind.Max vs l = refl

pub exact_sums : (fold : FieldFold) (entries : List Fields) → sizes (column fold.field entries) < 2 ^ 127 →
    fold_of (cell_of fold) (no_cell fold) merged_cell entries ≡ (fold.kind, as_one fold.kind (column fold.field entries))
exact_sums fold entries l = fold_is fold entries ∙ ap (λ v. (fold.kind, v)) (within fold.kind (column fold.field entries) l)

-- a sum of numbers of 64 bits is no greater than as many of the greatest
pub sum_size : (vs : List Scalar) → AreWords vs → unsigned_abs (sum_of vs) ≤ length vs * 9223372036854775808
sum_size = abs_sum
