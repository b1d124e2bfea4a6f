-- Values as one: in any order and in any parts they come to one value.
use Rattle.std.proofs.Common.{◌≡◌, ℤ, pos, ◌+ℤ◌, List, [], ◌∷◌, ◌++◌, true, false, refl, sym, ap, ◌∙◌}
use Rattle.std.proofs.Math.IntN.{+ℤ_comm, +ℤ_assoc, +ℤ_idl}
use Rattle.spec_data.specs.Scalars.{Scalar, nothing, truth, number, words}
use Rattle.index_tree.specs.declared.reduce_query.FoldKind.{FoldKind}
use Rattle.index_tree.specs.declared.reduce_query.FoldKind.TheVariants as kind
use Rattle.spec_index.specs.Folds.{addend, as_one, backwards, both, first, greatest_of, least_of, null_last, sum_of}
use Rattle.spec_index.specs.Rows.{IsReordered}
use Rattle.spec_index.proofs.Firsts.{first_comm, first_assoc}
use Rattle.spec_index.proofs.Ties.{null_last-total, null_last-ties, backwards-total, backwards-ties}

pub least_comm : (a b : Scalar) → first null_last a b ≡ first null_last b a
least_comm = first_comm null_last null_last-total null_last-ties

pub least_assoc : (a b c : Scalar) → first null_last (first null_last a b) c ≡ first null_last a (first null_last b c)
least_assoc = first_assoc null_last null_last-total null_last-ties

pub greatest_comm : (a b : Scalar) → first backwards a b ≡ first backwards b a
greatest_comm = first_comm backwards backwards-total backwards-ties

pub greatest_assoc : (a b c : Scalar) → first backwards (first backwards a b) c ≡ first backwards a (first backwards b c)
greatest_assoc = first_assoc backwards backwards-total backwards-ties

pub least_none : (v : Scalar) → first null_last nothing v ≡ v
least_none nothing = refl
least_none (truth true) = refl
least_none (truth false) = refl
least_none (number n) = refl
least_none (words w) = refl

pub greatest_none : (v : Scalar) → first backwards nothing v ≡ v
greatest_none nothing = refl
greatest_none (truth true) = refl
greatest_none (truth false) = refl
greatest_none (number n) = refl
greatest_none (words w) = refl

-- what a list comes to by an operation that is associative and commutative
module _ {V R : Type 0} (lifted : V → R) (none : R) (merged : R → R → R) (all : List V → R)
    (assoc : (a b c : R) → merged (merged a b) c ≡ merged a (merged b c)) (comm : (a b : R) → merged a b ≡ merged b a) (unit : (a : R) → merged none a ≡ a)
    (nil : all [] ≡ none) (cons : (v : V) (vs : List V) → all (v ∷ vs) ≡ merged (lifted v) (all vs)) where
  parted : (xs ys : List V) → all (xs ++ ys) ≡ merged (all xs) (all ys)
  parted [] ys = sym (unit (all ys)) ∙ ap (λ r. merged r (all ys)) (sym nil)
  parted (x ∷ xs) ys = cons x (xs ++ ys) ∙ ap (merged (lifted x)) (parted xs ys) ∙ sym (assoc (lifted x) (all xs) (all ys)) ∙ ap (λ r. merged r (all ys)) (sym (cons x xs))

  moved : (xs ys : List V) (v : V) → all (xs ++ v ∷ ys) ≡ merged (lifted v) (all (xs ++ ys))
  moved xs ys v =
      parted xs (v ∷ ys) ∙ ap (merged (all xs)) (cons v ys) ∙ sym (assoc (all xs) (lifted v) (all ys)) ∙ ap (λ r. merged r (all ys)) (comm (all xs) (lifted v)) ∙ assoc (lifted v) (all xs) (all ys)
      ∙ ap (merged (lifted v)) (sym (parted xs ys))

  ordered : (xs ys : List V) → IsReordered xs ys → all xs ≡ all ys
  ordered [] ys e = ap all (sym e)
  ordered (x ∷ xs) ys r = cons x xs ∙ ap (merged (lifted x)) (ordered xs (r.0 ++ r.1.0) r.1.1.1) ∙ sym (moved r.0 r.1.0 x) ∙ ap all (sym r.1.1.0)

pub sums_parted : (vs ws : List Scalar) → sum_of (vs ++ ws) ≡ sum_of vs +ℤ sum_of ws
sums_parted = parted addend (pos 0) ◌+ℤ◌ sum_of +ℤ_assoc +ℤ_comm +ℤ_idl refl (λ v vs. refl)

pub as_one_parted : (kind : FoldKind) (vs ws : List Scalar) → as_one kind (vs ++ ws) ≡ both kind (as_one kind vs) (as_one kind ws)
as_one_parted kind.Sum vs ws = ap number (sums_parted vs ws)
as_one_parted kind.Min vs ws = parted (λ v. v) nothing (first null_last) least_of least_assoc least_comm least_none refl (λ v vs. refl) vs ws
as_one_parted kind.Max vs ws = parted (λ v. v) nothing (first backwards) greatest_of greatest_assoc greatest_comm greatest_none refl (λ v vs. refl) vs ws

pub as_one_reordered : (kind : FoldKind) (vs ws : List Scalar) → IsReordered vs ws → as_one kind vs ≡ as_one kind ws
as_one_reordered kind.Sum vs ws r = ap number (ordered addend (pos 0) ◌+ℤ◌ sum_of +ℤ_assoc +ℤ_comm +ℤ_idl refl (λ v vs. refl) vs ws r)
as_one_reordered kind.Min vs ws r = ordered (λ v. v) nothing (first null_last) least_of least_assoc least_comm least_none refl (λ v vs. refl) vs ws r
as_one_reordered kind.Max vs ws r = ordered (λ v. v) nothing (first backwards) greatest_of greatest_assoc greatest_comm greatest_none refl (λ v vs. refl) vs ws r
