-- Values of a field as one.
use Rattle.std.specs.Prelude.{ℕ, ℤ, pos, ◌+ℤ◌, int_div, List, [], ◌∷◌, if◌then◌else◌}
use Rattle.std.specs.declared.cmp.Ordering.{Ordering}
use Rattle.std.specs.Ordering.{int_eq, match_ordering, nat_cmp, ordering_then}
use Rattle.spec_data.specs.Scalars.{Scalar, nothing, number, order}
use Rattle.index_tree.specs.declared.reduce_query.FoldKind.{FoldKind}
use Rattle.index_tree.specs.declared.reduce_query.FoldKind.TheVariants as kind

-- a number is added, and all else adds nothing
abbrev pub addend : Scalar → ℤ
addend (number n) = n
addend other = pos 0

abbrev pub sum_of : List Scalar → ℤ
sum_of [] = pos 0
sum_of (v ∷ vs) = addend v +ℤ sum_of vs

-- the one that comes first in an order
abbrev pub first : {A : Type 0} → (A → A → Ordering) → A → A → A
first cmp a b = match_ordering (cmp a b) a a b

-- the order of scalars, but null comes last
abbrev pub nullness : Scalar → ℕ
nullness nothing = 1
nullness other = 0

abbrev pub null_last : Scalar → Scalar → Ordering
null_last a b = ordering_then (nat_cmp (nullness a) (nullness b)) (order a b)

-- the order of scalars backwards, so null comes last here too
abbrev pub backwards : Scalar → Scalar → Ordering
backwards a b = order b a

-- the least value that is not null, or null
abbrev pub least_of : List Scalar → Scalar
least_of [] = nothing
least_of (v ∷ vs) = first null_last v (least_of vs)

-- the greatest value that is not null, or null
abbrev pub greatest_of : List Scalar → Scalar
greatest_of [] = nothing
greatest_of (v ∷ vs) = first backwards v (greatest_of vs)

abbrev pub as_one : FoldKind → List Scalar → Scalar
as_one kind.Sum vs = number (sum_of vs)
as_one kind.Min vs = least_of vs
as_one kind.Max vs = greatest_of vs

-- what two lists of values come to together, from what each comes to
abbrev pub both : FoldKind → Scalar → Scalar → Scalar
both kind.Sum a b = number (addend a +ℤ addend b)
both kind.Min a b = first null_last a b
both kind.Max a b = first backwards a b

-- one sum divided by another, cut towards zero; null if the second is 0
abbrev pub quotient_of : ℤ → ℤ → Scalar
quotient_of m n = if int_eq n (pos 0) then nothing else number (int_div m n)
