-- The laws of cells and rows.
use Rattle.std.proofs.Common.{◌≡◌, ℤ, pos, ◌+ℤ◌, List, [], ◌∷◌, refl, sym, ap, ◌∙◌}
use Rattle.std.specs.Int.{int_wrap, w128}
use Rattle.std.proofs.lemmas.Int.{int_wrap-add_left, int_wrap-add_right}
use Rattle.std.proofs.Math.IntN.{+ℤ_comm, +ℤ_assoc, +ℤ_idr}
use Rattle.spec_data.specs.Scalars.{Scalar, nothing, number}
use Rattle.index_tree.specs.Meaning.{Fields}
use Rattle.index_tree.specs.declared.reduce_query.FoldKind.{FoldKind}
use Rattle.index_tree.specs.declared.reduce_query.FoldKind.TheVariants as kind
use Rattle.reduce_folds.specs.declared.field_fold.FieldFold.{FieldFold}
use Rattle.reduce_folds.specs.Cells.{Cell, cell_of, joined, lifted, merged_cell, merged_row, no_cell, no_row, no_value, row_of}
use Rattle.spec_index.specs.Folds.{addend}
use Rattle.spec_index.specs.Rows.{value_at}
use Rattle.spec_index.proofs.Folding.{greatest_assoc, greatest_comm, greatest_none, least_assoc, least_comm, least_none}

joined_comm : (k : FoldKind) (a b : Scalar) → joined k a b ≡ joined k b a
joined_comm kind.Sum a b = ap (λ n. number (int_wrap w128 n)) (+ℤ_comm (addend a) (addend b))
joined_comm kind.Min a b = least_comm a b
joined_comm kind.Max a b = greatest_comm a b

added_assoc : (l m n : ℤ) → int_wrap w128 (int_wrap w128 (l +ℤ m) +ℤ n) ≡ int_wrap w128 (l +ℤ int_wrap w128 (m +ℤ n))
added_assoc l m n = int_wrap-add_left w128 (l +ℤ m) n ∙ ap (int_wrap w128) (+ℤ_assoc l m n) ∙ sym (int_wrap-add_right w128 l (m +ℤ n))

joined_assoc : (k : FoldKind) (a b c : Scalar) → joined k (joined k a b) c ≡ joined k a (joined k b c)
joined_assoc kind.Sum a b c = ap number (added_assoc (addend a) (addend b) (addend c))
joined_assoc kind.Min a b c = least_assoc a b c
joined_assoc kind.Max a b c = greatest_assoc a b c

pub cell_comm : (a b : Cell) → merged_cell a b ≡ merged_cell b a
cell_comm (kind.Sum, a) (kind.Sum, b) = ap (λ v. (kind.Sum, v)) (joined_comm kind.Sum a b)
cell_comm (kind.Sum, a) (kind.Min, b) = refl
cell_comm (kind.Sum, a) (kind.Max, b) = refl
cell_comm (kind.Min, a) (kind.Sum, b) = refl
cell_comm (kind.Min, a) (kind.Min, b) = ap (λ v. (kind.Min, v)) (joined_comm kind.Min a b)
cell_comm (kind.Min, a) (kind.Max, b) = refl
cell_comm (kind.Max, a) (kind.Sum, b) = refl
cell_comm (kind.Max, a) (kind.Min, b) = refl
cell_comm (kind.Max, a) (kind.Max, b) = ap (λ v. (kind.Max, v)) (joined_comm kind.Max a b)

pub cell_assoc : (a b c : Cell) → merged_cell (merged_cell a b) c ≡ merged_cell a (merged_cell b c)
cell_assoc (kind.Sum, a) (kind.Sum, b) (kind.Sum, c) = ap (λ v. (kind.Sum, v)) (joined_assoc kind.Sum a b c)
cell_assoc (kind.Sum, a) (kind.Sum, b) (kind.Min, c) = refl
cell_assoc (kind.Sum, a) (kind.Sum, b) (kind.Max, c) = refl
cell_assoc (kind.Sum, a) (kind.Min, b) (kind.Sum, c) = refl
cell_assoc (kind.Sum, a) (kind.Min, b) (kind.Min, c) = refl
cell_assoc (kind.Sum, a) (kind.Min, b) (kind.Max, c) = refl
cell_assoc (kind.Sum, a) (kind.Max, b) (kind.Sum, c) = refl
cell_assoc (kind.Sum, a) (kind.Max, b) (kind.Min, c) = refl
cell_assoc (kind.Sum, a) (kind.Max, b) (kind.Max, c) = refl
cell_assoc (kind.Min, a) (kind.Sum, b) (kind.Sum, c) = refl
cell_assoc (kind.Min, a) (kind.Sum, b) (kind.Min, c) = refl
cell_assoc (kind.Min, a) (kind.Sum, b) (kind.Max, c) = refl
cell_assoc (kind.Min, a) (kind.Min, b) (kind.Sum, c) = refl
cell_assoc (kind.Min, a) (kind.Min, b) (kind.Min, c) = ap (λ v. (kind.Min, v)) (joined_assoc kind.Min a b c)
cell_assoc (kind.Min, a) (kind.Min, b) (kind.Max, c) = refl
cell_assoc (kind.Min, a) (kind.Max, b) (kind.Sum, c) = refl
cell_assoc (kind.Min, a) (kind.Max, b) (kind.Min, c) = refl
cell_assoc (kind.Min, a) (kind.Max, b) (kind.Max, c) = refl
cell_assoc (kind.Max, a) (kind.Sum, b) (kind.Sum, c) = refl
cell_assoc (kind.Max, a) (kind.Sum, b) (kind.Min, c) = refl
cell_assoc (kind.Max, a) (kind.Sum, b) (kind.Max, c) = refl
cell_assoc (kind.Max, a) (kind.Min, b) (kind.Sum, c) = refl
cell_assoc (kind.Max, a) (kind.Min, b) (kind.Min, c) = refl
cell_assoc (kind.Max, a) (kind.Min, b) (kind.Max, c) = refl
cell_assoc (kind.Max, a) (kind.Max, b) (kind.Sum, c) = refl
cell_assoc (kind.Max, a) (kind.Max, b) (kind.Min, c) = refl
cell_assoc (kind.Max, a) (kind.Max, b) (kind.Max, c) = ap (λ v. (kind.Max, v)) (joined_assoc kind.Max a b c)

pub zero_fits : int_wrap w128 (pos 0) ≡ pos 0
unfolding int_wrap
zero_fits = refl

-- no values come to what null comes to
pub no_value-lifted : (k : FoldKind) → lifted k nothing ≡ no_value k
no_value-lifted kind.Sum = ap number zero_fits
no_value-lifted kind.Min = refl
no_value-lifted kind.Max = refl

kind_unit : (k : FoldKind) (v : Scalar) → merged_cell (k, lifted k v) (k, no_value k) ≡ (k, lifted k v)
kind_unit kind.Sum v = ap (λ n. (kind.Sum, number n)) (int_wrap-add_left w128 (addend v) (pos 0) ∙ ap (int_wrap w128) (+ℤ_idr (addend v)))
kind_unit kind.Min v = ap (λ x. (kind.Min, x)) (least_comm v nothing ∙ least_none v)
kind_unit kind.Max v = ap (λ x. (kind.Max, x)) (greatest_comm v nothing ∙ greatest_none v)

kind_unit-none : (k : FoldKind) → merged_cell (k, no_value k) (k, no_value k) ≡ (k, no_value k)
kind_unit-none kind.Sum = ap (λ n. (kind.Sum, number n)) zero_fits
kind_unit-none kind.Min = refl
kind_unit-none kind.Max = refl

pub cell_unit : (fold : FieldFold) (entry : Fields) → merged_cell (cell_of fold entry) (no_cell fold) ≡ cell_of fold entry
cell_unit fold entry = kind_unit fold.kind (value_at fold.field entry)

pub cell_unit-none : (fold : FieldFold) → merged_cell (no_cell fold) (no_cell fold) ≡ no_cell fold
cell_unit-none fold = kind_unit-none fold.kind

pub row_nil : (as' : List Cell) → merged_row as' [] ≡ as'
row_nil [] = refl
row_nil (a ∷ as') = refl

pub row_comm : (as' bs : List Cell) → merged_row as' bs ≡ merged_row bs as'
row_comm [] [] = refl
row_comm [] (b ∷ bs) = refl
row_comm (a ∷ as') [] = refl
row_comm (a ∷ as') (b ∷ bs) = ap (λ x. x ∷ merged_row as' bs) (cell_comm a b) ∙ ap (λ l. merged_cell b a ∷ l) (row_comm as' bs)

pub row_assoc : (as' bs cs : List Cell) → merged_row (merged_row as' bs) cs ≡ merged_row as' (merged_row bs cs)
row_assoc [] bs cs = refl
row_assoc (a ∷ as') [] cs = refl
row_assoc (a ∷ as') (b ∷ bs) [] = refl
row_assoc (a ∷ as') (b ∷ bs) (c ∷ cs) = ap (λ x. x ∷ merged_row (merged_row as' bs) cs) (cell_assoc a b c) ∙ ap (λ l. merged_cell a (merged_cell b c) ∷ l) (row_assoc as' bs cs)

pub row_unit : (folds : List FieldFold) (entry : Fields) → merged_row (row_of folds entry) (no_row folds) ≡ row_of folds entry
row_unit [] entry = refl
row_unit (f ∷ fs) entry = ap (λ x. x ∷ merged_row (row_of fs entry) (no_row fs)) (cell_unit f entry) ∙ ap (λ l. cell_of f entry ∷ l) (row_unit fs entry)

pub row_unit-none : (folds : List FieldFold) → merged_row (no_row folds) (no_row folds) ≡ no_row folds
row_unit-none [] = refl
row_unit-none (f ∷ fs) = ap (λ x. x ∷ merged_row (no_row fs) (no_row fs)) (cell_unit-none f) ∙ ap (λ l. no_cell f ∷ l) (row_unit-none fs)
