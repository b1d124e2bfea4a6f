-- Cells of a row, and how rows are merged.
use Rattle.std.specs.Prelude.{ℕ, pos, ◌+ℤ◌, List, [], ◌∷◌, map}
use Rattle.std.specs.Int.{int_wrap, w128}
use Rattle.std.specs.Ordering.{match_ordering, nat_cmp}
use Rattle.spec_data.specs.Scalars.{Scalar, nothing, number}
use Rattle.index_tree.specs.Meaning.{Fields}
use Rattle.index_tree.specs.declared.reduce_query.FoldKind.{FoldKind}
use Rattle.index_tree.specs.declared.reduce_query.FoldKind.TheVariants as kind
use Rattle.reduce_folds.specs.declared.field_fold.FieldFold.{FieldFold}
use Rattle.spec_index.specs.Folds.{addend, backwards, first, null_last}
use Rattle.spec_index.specs.Rows.{value_at}

-- how values become one, and what they come to
abbrev pub Cell : Type 0
Cell = FoldKind × Scalar

-- what one value comes to, and what no values come to
abbrev pub lifted : FoldKind → Scalar → Scalar
lifted kind.Sum v = number (int_wrap w128 (addend v))
lifted kind.Min v = v
lifted kind.Max v = v

abbrev pub no_value : FoldKind → Scalar
no_value kind.Sum = number (pos 0)
no_value kind.Min = nothing
no_value kind.Max = nothing

-- two values of one kind together; sums are taken modulo 2^128
abbrev pub joined : FoldKind → Scalar → Scalar → Scalar
joined kind.Sum a b = number (int_wrap w128 (addend a +ℤ addend b))
joined kind.Min a b = first null_last a b
joined kind.Max a b = first backwards a b

abbrev pub kind_rank : FoldKind → ℕ
kind_rank kind.Sum = 0
kind_rank kind.Min = 1
kind_rank kind.Max = 2

-- of cells of two kinds, which no fold merges, that of the later kind stays
abbrev pub merged_cell : Cell → Cell → Cell
merged_cell a b = match_ordering (nat_cmp (kind_rank a.0) (kind_rank b.0)) b (a.0, joined a.0 a.1 b.1) a

-- cell by cell; the rest of a longer row stays
abbrev pub merged_row : List Cell → List Cell → List Cell
merged_row [] bs = bs
merged_row (a ∷ as') [] = a ∷ as'
merged_row (a ∷ as') (b ∷ bs) = merged_cell a b ∷ merged_row as' bs

-- the cell of an entry, and that of no entries
abbrev pub cell_of : FieldFold → Fields → Cell
cell_of fold entry = (fold.kind, lifted fold.kind (value_at fold.field entry))

abbrev pub no_cell : FieldFold → Cell
no_cell fold = (fold.kind, no_value fold.kind)

-- the row of an entry, and that of no entries
abbrev pub row_of : List FieldFold → Fields → List Cell
row_of folds entry = map (λ fold. cell_of fold entry) folds

abbrev pub no_row : List FieldFold → List Cell
no_row folds = map no_cell folds
