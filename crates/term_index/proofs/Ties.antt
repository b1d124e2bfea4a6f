-- Which keys are at one place.
use Rattle.std.proofs.Common.{◌≡◌, ℕ, List, Bool, true, false, Some, ap}
use Rattle.std.specs.Ordering.{nat_cmp, ordering_then, is_eq, eq_by_cmp}
use Rattle.std.specs.Cmp.{IsEquivalence, eq_by_cmp_equiv}
use Rattle.std.specs.Cmp.Lexicographic.{nat_list_cmp_total}
use Rattle.std.proofs.lemmas.Cmp.{tied_itself}
use Rattle.spec_data.specs.Folding.{folded, key_cmp}
use Rattle.spec_data.specs.Scalars.{Scalar}
use Rattle.raven_value.specs.declared.scalar.Scalar.{Scalar as Value}
use Rattle.term_index.specs.Marks.{Mark, mark_cmp, value_cmp, at_id}
use Rattle.term_index.specs.Totals.{values_total}
use Rattle.term_index.specs.KeyView.{mark_of, by_mark, term_of}
use Rattle.term_index.specs.declared.key.Key.{Key}
use Rattle.term_index.specs.declared.key.Key.TheVariants as k
use Rattle.term_index.proofs.Orders.{then_left, then_right}

-- folded ids are the same
abbrev pub alike : List ℕ → List ℕ → Bool
alike q x = eq_by_cmp key_cmp q x

pub alike_laws : IsEquivalence alike
alike_laws = eq_by_cmp_equiv nat_list_cmp_total

-- marks at one place are on one side, and have one id
pub marks_tie : (m n : Mark) → is_eq (mark_cmp m n) ≡ true → (is_eq (nat_cmp m.side n.side) ≡ true) × (is_eq (key_cmp m.id n.id) ≡ true)
marks_tie m n h =
    let last = then_right (value_cmp m.value n.value) (ordering_then (nat_cmp m.side n.side) (key_cmp m.id n.id)) h in
    (then_left (nat_cmp m.side n.side) (key_cmp m.id n.id) last, then_right (nat_cmp m.side n.side) (key_cmp m.id n.id) last)

-- the key is a term of this id
abbrev pub HasId : List ℕ → Key → Type 0
HasId x (k.At t) = alike (folded x) (folded t.id) ≡ true
HasId x edge = ⊥

pub ties : (v : Value) (x : List ℕ) (key : Key) → is_eq (by_mark (term_of v x) key) ≡ true → HasId x key
ties v x (k.At t) h = (marks_tie (mark_of (term_of v x)) (mark_of (k.At t)) h).1
ties v x (k.Before w) h = let no : false ≡ true = (marks_tie (mark_of (term_of v x)) (mark_of (k.Before w)) h).0 in absurd cc
ties v x (k.After w) h = let no : false ≡ true = (marks_tie (mark_of (term_of v x)) (mark_of (k.After w)) h).0 in absurd cc
ties v x k.End h = let no : false ≡ true = (marks_tie (mark_of (term_of v x)) (mark_of k.End) h).0 in absurd cc

-- terms of one value are at one place exactly if their ids are the same
pub same_place : (s : Scalar) (x y : List ℕ) → is_eq (mark_cmp (at_id s x) (at_id s y)) ≡ alike (folded x) (folded y)
same_place s x y = ap (λ o. is_eq (ordering_then o (key_cmp (folded x) (folded y)))) (tied_itself values_total (Some s))
