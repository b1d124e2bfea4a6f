-- Terms that follow one another: the texts that begin with one text, and the ids of one value.
use Rattle.std.proofs.Common.{◌≡◌, ℕ, List, [], ◌∷◌, Bool, true, false, cond, not, ◌&&◌, Some, Ordering, Less, Equal, Greater, nat_eq, nat_lt, refl, sym, ap, ◌∙◌, arith}
use Rattle.std.specs.Ordering.{nat_cmp, ordering_then, is_le}
use Rattle.std.specs.List.{starts_with}
use Rattle.std.proofs.lemmas.Bool.Decides.{nat_tests}
use Rattle.std.proofs.lemmas.Cmp.{tied_itself}
use Rattle.spec_data.specs.Folding.{folded, key_cmp}
use Rattle.spec_data.specs.Scalars.{Scalar, nothing, truth, number, words, form, alike, holds, Test, Is, Not, Below, AtMost, Above, AtLeast, Between, In, Starts, There}
use Rattle.raven_value.specs.ScalarView.{scalar_view}
use Rattle.paged_map.specs.Pairs.{AllAnswer, IsRising}
use Rattle.paged_map.specs.Range.{between}
use Rattle.paged_map.proofs.Laws as pages
use Rattle.reference_track.specs.Sets.{AreInOrder, IsBelowAll}
use Rattle.term_index.specs.Edges.{low_edge, is_past}
use Rattle.term_index.specs.Held.{Pairs, passing, passing_onto}
use Rattle.term_index.specs.KeyView.{mark_of, by_mark}
use Rattle.term_index.specs.Marks.{mark_cmp, value_cmp, at_id, before}
use Rattle.term_index.specs.Totals.{values_total, marks_total}
use Rattle.term_index.specs.declared.key.Key.{Key}
use Rattle.term_index.specs.declared.key.Key.TheVariants as k
use Rattle.term_index.specs.declared.key.Term.{Term}
use Rattle.term_index.proofs.Orders.{alike_tied}
use Rattle.term_index.proofs.Ranges.{folded_prefix}

-- PREFIXES

then_le : (a b : Ordering) → is_le (ordering_then a b) ≡ true → is_le a ≡ true
then_le Less b h = refl
then_le Equal b h = refl
then_le Greater b h = h

less : (m n : ℕ) → nat_cmp m n ≡ Less → nat_lt m n ≡ true
less m n e = grind (arith, nat_tests)

same : (m n : ℕ) → nat_cmp m n ≡ Equal → nat_eq m n ≡ true
same m n e = grind (arith, nat_tests)

between_same : (m n k : ℕ) → nat_eq m k ≡ true → nat_lt m n ≡ true → nat_lt n k ≡ true → ⊥
between_same m n k e f i = grind (arith, nat_tests)

below_same : (m n k : ℕ) → nat_eq m k ≡ true → nat_lt m n ≡ true → nat_eq n k ≡ true → ⊥
below_same m n k e f i = grind (arith, nat_tests)

same_below : (m n k : ℕ) → nat_eq m k ≡ true → nat_eq m n ≡ true → nat_lt n k ≡ true → ⊥
same_below m n k e f i = grind (arith, nat_tests)

and_left : (a b : Bool) → a && b ≡ true → a ≡ true
and_left true b p = refl
and_left false b p = p

and_right : (a b : Bool) → a && b ≡ true → b ≡ true
and_right true b p = p
and_right false b p = absurd cc

both : (a b : Bool) → a ≡ true → b ≡ true → a && b ≡ true
both a b h g = ap (λ c. c && b) h ∙ g

not_so : false ≡ true → ⊥
not_so h = absurd cc

-- a text between two others, of which the later begins with the earlier, begins with it too
pub prefix_run : (xs ys zs : List ℕ) → is_le (key_cmp xs ys) ≡ true → is_le (key_cmp ys zs) ≡ true → starts_with nat_eq zs xs ≡ true → starts_with nat_eq ys xs ≡ true
prefix_run [] ys zs h g s = refl
prefix_run (x ∷ xs) [] zs h g s = absurd (not_so h)
prefix_run (x ∷ xs) (y ∷ ys) [] h g s = absurd (not_so g)
prefix_run (x ∷ xs) (y ∷ ys) (z ∷ zs) h g s =
    let head = and_left (nat_eq x z) _ s in
    elim (nat_cmp x y) as (λ r. nat_cmp x y ≡ r → is_le (ordering_then r (key_cmp xs ys)) ≡ true → nat_eq x y && starts_with nat_eq ys xs ≡ true) [
      | Less ↦ λ e p.
          absurd (elim (nat_cmp y z) as (λ q. nat_cmp y z ≡ q → is_le (ordering_then q (key_cmp ys zs)) ≡ true → ⊥) [
            | Less ↦ λ f k. between_same x y z head (less x y e) (less y z f)
            | Equal ↦ λ f k. below_same x y z head (less x y e) (same y z f)
            | Greater ↦ λ f k. not_so k
          ] refl g)
      | Equal ↦ λ e p.
          elim (nat_cmp y z) as (λ q. nat_cmp y z ≡ q → is_le (ordering_then q (key_cmp ys zs)) ≡ true → nat_eq x y && starts_with nat_eq ys xs ≡ true) [
            | Less ↦ λ f k. absurd (same_below x y z head (same x y e) (less y z f))
            | Equal ↦ λ f k. both (nat_eq x y) _ (same x y e) (prefix_run xs ys zs p k (and_right (nat_eq x z) _ s))
            | Greater ↦ λ f k. absurd (not_so k)
          ] refl g
      | Greater ↦ λ e p. absurd (not_so p)
    ] refl h

-- no key is before the edge
abbrev pub AllFrom : Key → Pairs → Type 0
AllFrom low [] = Unit {0}
AllFrom low (e ∷ es) = (is_le (by_mark low e.0) ≡ true) × AllFrom low es

pub all_from-between : (low high : Key) (es : Pairs) → AllFrom low (between by_mark low high es)
all_from-between low high [] = tt
all_from-between low high (e ∷ es) =
    elim (is_le (by_mark low e.0) && is_le (by_mark e.0 high)) as (λ b. is_le (by_mark low e.0) && is_le (by_mark e.0 high) ≡ b → AllFrom low (cond b (e ∷ between by_mark low high es) (between by_mark low high es))) [
      | true ↦ λ h. (and_left (is_le (by_mark low e.0)) _ h, all_from-between low high es)
      | false ↦ λ h. all_from-between low high es
    ] refl

module _ (prefix : List ℕ) (exact : Bool) where
  -- none begins so from a value on that does not
  pub none_begins : (v w : Scalar) (x y : List ℕ) → is_le (mark_cmp (before (words prefix)) (at_id v x)) ≡ true → is_le (mark_cmp (at_id v x) (at_id w y)) ≡ true → holds (Starts prefix) false v ≡ false → holds (Starts prefix) exact w ≡ false
  none_begins v nothing x y h g n = refl
  none_begins v (truth b) x y h g n = refl
  none_begins v (number m) x y h g n = refl
  none_begins nothing (words s) x y h g n = absurd (not_so h)
  none_begins (truth true) (words s) x y h g n = absurd (not_so h)
  none_begins (truth false) (words s) x y h g n = absurd (not_so h)
  none_begins (number m) (words s) x y h g n = absurd (not_so h)
  none_begins (words p) (words s) x y h g n =
      elim (holds (Starts prefix) exact (words s)) as (λ b. holds (Starts prefix) exact (words s) ≡ b → b ≡ false) [
        | true ↦ λ e. absurd (not_so (sym n ∙ prefix_run (folded prefix) (folded p) (folded s) (then_le (key_cmp (folded prefix) (folded p)) _ h) (then_le (key_cmp (folded p) (folded s)) _ g) (folds exact e)))
        | false ↦ λ e. refl
      ] refl
    where
      folds : (c : Bool) → starts_with nat_eq (form c s) (form c prefix) ≡ true → starts_with nat_eq (folded s) (folded prefix) ≡ true
      folds true e = folded_prefix prefix s e
      folds false e = e

  passes_over : (key : Key) (rest : List (List ℕ)) → ((t : Term) → key ≡ k.At t → holds (Starts prefix) exact (scalar_view t.value) ≡ false) → passing_onto (Starts prefix) exact key rest ≡ rest
  passes_over (k.At t) rest h = ap (λ b. cond b (t.id ∷ rest) rest) (h t refl)
  passes_over (k.Before w) rest h = refl
  passes_over (k.After w) rest h = refl
  passes_over k.End rest h = refl

  none_passes : (t : Term) (es : Pairs) → is_le (mark_cmp (before (words prefix)) (at_id (scalar_view t.value) t.id)) ≡ true → holds (Starts prefix) false (scalar_view t.value) ≡ false
      → AllAnswer by_mark (k.At t) Less es → passing (Starts prefix) exact es ≡ []
  none_passes t [] h n a = refl
  none_passes t (e ∷ es) h n a =
      passes_over e.0 (passing (Starts prefix) exact es) (λ u is. none_begins (scalar_view t.value) (scalar_view u.value) t.id u.id h (ap (λ key. is_le (by_mark (k.At t) key)) (sym is) ∙ ap is_le a.0) n)
      ∙ none_passes t es h n a.1

  starts_end : (low : Key) (t : Term) (es : Pairs) → mark_of low ≡ before (words prefix) → AllFrom low ((k.At t, tt) ∷ es) → IsRising by_mark ((k.At t, tt) ∷ es)
      → holds (Starts prefix) false (scalar_view t.value) ≡ false → passing (Starts prefix) exact ((k.At t, tt) ∷ es) ≡ []
  starts_end low t es from all up n =
      let at : is_le (mark_cmp (before (words prefix)) (at_id (scalar_view t.value) t.id)) ≡ true = ap (λ m. is_le (mark_cmp m (at_id (scalar_view t.value) t.id))) (sym from) ∙ all.0 in
      passes_over (k.At t) (passing (Starts prefix) exact es) (λ u is. none_begins (scalar_view t.value) (scalar_view u.value) t.id u.id at (ap (λ key. is_le (by_mark (k.At t) key)) (sym is) ∙ ap is_le (tied_itself marks_total (mark_of (k.At t)))) n)
      ∙ none_passes t es at n up.0

not_true : (b : Bool) → not b ≡ true → b ≡ false
not_true true h = absurd cc
not_true false h = refl

-- from a value that is past the test on, nothing more is found
pub run_ends : (test : Test) (exact : Bool) (low : Key) (t : Term) (es : Pairs) → mark_of low ≡ low_edge test exact → AllFrom low ((k.At t, tt) ∷ es) → IsRising by_mark ((k.At t, tt) ∷ es)
    → is_past test (scalar_view t.value) ≡ true → passing test exact ((k.At t, tt) ∷ es) ≡ []
run_ends (Starts prefix) exact low t es from all up past = starts_end prefix exact low t es from all up (not_true _ past)
run_ends (Is a) exact low t es from all up past = absurd (not_so past)
run_ends (Not a) exact low t es from all up past = absurd (not_so past)
run_ends (Below a) exact low t es from all up past = absurd (not_so past)
run_ends (AtMost a) exact low t es from all up past = absurd (not_so past)
run_ends (Above a) exact low t es from all up past = absurd (not_so past)
run_ends (AtLeast a) exact low t es from all up past = absurd (not_so past)
run_ends (Between a b) exact low t es from all up past = absurd (not_so past)
run_ends (In as') exact low t es from all up past = absurd (not_so past)
run_ends There exact low t es from all up past = absurd (not_so past)

-- ONE VALUE

module _ (a : Scalar) (exact : Bool) where
  -- of two terms of the value, the ids are in the order of the terms
  ids_below : (v w : Scalar) (x y : List ℕ) → alike exact v a ≡ true → alike exact w a ≡ true → mark_cmp (at_id v x) (at_id w y) ≡ Less → key_cmp (folded x) (folded y) ≡ Less
  ids_below v w x y h g below =
      let tie : value_cmp (Some v) (Some w) ≡ Equal = pages.alike value_cmp values_total (Some v) (Some w) (Some a) (alike_tied exact w a g) ∙ alike_tied exact v a h in
      ap (λ o. ordering_then o (key_cmp (folded x) (folded y))) (sym tie) ∙ below

  below_all : (t : Term) (es : Pairs) → alike exact (scalar_view t.value) a ≡ true → AllAnswer by_mark (k.At t) Less es → IsBelowAll t.id (passing (Is a) exact es)
  below_all t [] h up = tt
  below_all t ((k.At u, unit) ∷ es) h up =
      elim (alike exact (scalar_view u.value) a) as (λ b. alike exact (scalar_view u.value) a ≡ b → IsBelowAll t.id (cond b (u.id ∷ passing (Is a) exact es) (passing (Is a) exact es))) [
        | true ↦ λ g. (ids_below (scalar_view t.value) (scalar_view u.value) t.id u.id h g up.0, below_all t es h up.1)
        | false ↦ λ g. below_all t es h up.1
      ] refl
  below_all t ((k.Before w, unit) ∷ es) h up = below_all t es h up.1
  below_all t ((k.After w, unit) ∷ es) h up = below_all t es h up.1
  below_all t ((k.End, unit) ∷ es) h up = below_all t es h up.1

  pub ids_in_order : (es : Pairs) → IsRising by_mark es → AreInOrder (passing (Is a) exact es)
  ids_in_order [] up = tt
  ids_in_order ((k.At t, unit) ∷ es) up =
      elim (alike exact (scalar_view t.value) a) as (λ b. alike exact (scalar_view t.value) a ≡ b → AreInOrder (cond b (t.id ∷ passing (Is a) exact es) (passing (Is a) exact es))) [
        | true ↦ λ g. (below_all t es g up.0, ids_in_order es up.1)
        | false ↦ λ g. ids_in_order es up.1
      ] refl
  ids_in_order ((k.Before w, unit) ∷ es) up = ids_in_order es up.1
  ids_in_order ((k.After w, unit) ∷ es) up = ids_in_order es up.1
  ids_in_order ((k.End, unit) ∷ es) up = ids_in_order es up.1
