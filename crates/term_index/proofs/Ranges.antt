-- The values that meet a test are between its edges.
use Rattle.std.proofs.Common.{◌≡◌, ℕ, List, [], ◌∷◌, Bool, true, false, ◌&&◌, Ordering, Less, Equal, Greater, nat_eq, ℤ, refl, sym, ap, ◌∙◌, arith}
use Rattle.std.proofs.lemmas.Bool.Decides.{nat_tests}
use Rattle.std.specs.Ordering.{nat_cmp, int_cmp, ordering_then, ordering_reverse, is_lt, is_le, is_gt, is_ge}
use Rattle.std.specs.List.{starts_with}
use Rattle.std.specs.Char.{to_ascii_lowercase}
use Rattle.std.specs.Cmp.{nat_cmp_total, int_cmp_total}
use Rattle.std.specs.Cmp.Lexicographic.{nat_list_cmp_total}
use Rattle.std.proofs.lemmas.Cmp.{tied_itself}
use Rattle.spec_data.specs.Folding.{folded, key_cmp}
use Rattle.spec_data.specs.Scalars.{Scalar, nothing, truth, number, words, form, in_order, holds, Test, Is, Not, Below, AtMost, Above, AtLeast, Between, In, Starts, There}
use Rattle.term_index.specs.Marks.{mark_cmp, at_id, before, after, past_all}
use Rattle.term_index.specs.Edges.{low_edge, high_edge, kind_start, kind_end, start_at, start_after, end_before, end_at}
use Rattle.term_index.proofs.Orders.{alike_tied, tied_back}

-- ORDERS IN TURN

lt_then : (o r : Ordering) → is_lt o ≡ true → is_le (ordering_then o r) ≡ true
lt_then Less r h = refl
lt_then Equal r h = absurd cc
lt_then Greater r h = absurd cc

le_then : (o r : Ordering) → is_le o ≡ true → is_le r ≡ true → is_le (ordering_then o r) ≡ true
le_then Less r h g = refl
le_then Equal r h g = g
le_then Greater r h g = absurd cc

then_Equal : (o : Ordering) → o ≡ ordering_then o Equal
then_Equal Less = refl
then_Equal Equal = refl
then_Equal Greater = refl

back_gt : (o : Ordering) → is_gt o ≡ true → is_lt (ordering_reverse o) ≡ true
back_gt Less h = absurd cc
back_gt Equal h = absurd cc
back_gt Greater h = refl

back_ge : (o : Ordering) → is_ge o ≡ true → is_le (ordering_reverse o) ≡ true
back_ge Less h = absurd cc
back_ge Equal h = refl
back_ge Greater h = refl

both_left : (a b : Bool) → a && b ≡ true → a ≡ true
both_left true b h = refl
both_left false b h = h

both_right : (a b : Bool) → a && b ≡ true → b ≡ true
both_right true b h = h
both_right false b h = absurd cc

-- ALL VALUES

pub first_of_all : (v : Scalar) (x : List ℕ) → is_le (mark_cmp (before nothing) (at_id v x)) ≡ true
first_of_all nothing x = refl
first_of_all (truth true) x = refl
first_of_all (truth false) x = refl
first_of_all (number n) x = refl
first_of_all (words s) x = refl

pub last_of_all : (v : Scalar) (x : List ℕ) → is_le (mark_cmp (at_id v x) past_all) ≡ true
last_of_all nothing x = refl
last_of_all (truth true) x = refl
last_of_all (truth false) x = refl
last_of_all (number n) x = refl
last_of_all (words s) x = refl

pub first_of_texts : (s x : List ℕ) → is_le (mark_cmp (before (words [])) (at_id (words s) x)) ≡ true
first_of_texts [] x = refl
first_of_texts (b ∷ bs) x = refl

-- PREFIXES

nat_same : (m n : ℕ) → nat_eq m n ≡ true → m ≡ n
nat_same m n e = grind (arith, nat_tests)

prefix_le : (xs ys : List ℕ) → starts_with nat_eq ys xs ≡ true → is_le (key_cmp xs ys) ≡ true
prefix_le [] [] h = refl
prefix_le [] (y ∷ ys) h = refl
prefix_le (x ∷ xs) [] h = absurd cc
prefix_le (x ∷ xs) (y ∷ ys) h =
    ap (λ o. is_le (ordering_then o (key_cmp xs ys))) (ap (nat_cmp x) (sym (nat_same x y (both_left (nat_eq x y) _ h))) ∙ tied_itself nat_cmp_total x)
    ∙ prefix_le xs ys (both_right (nat_eq x y) _ h)

-- a prefix is one still if letters are folded
pub folded_prefix : (xs ys : List ℕ) → starts_with nat_eq ys xs ≡ true → starts_with nat_eq (folded ys) (folded xs) ≡ true
folded_prefix [] [] h = refl
folded_prefix [] (y ∷ ys) h = refl
folded_prefix (x ∷ xs) [] h = absurd cc
folded_prefix (x ∷ xs) (y ∷ ys) h =
    ap (λ b. b && starts_with nat_eq (folded ys) (folded xs)) (ap (λ z. nat_eq (to_ascii_lowercase x) (to_ascii_lowercase z)) (sym (nat_same x y (both_left (nat_eq x y) _ h))) ∙ itself (to_ascii_lowercase x))
    ∙ folded_prefix xs ys (both_right (nat_eq x y) _ h)
  where
    itself : (n : ℕ) → nat_eq n n ≡ true
    itself n = grind (arith, nat_tests)

prefix_below : (exact : Bool) (s t : List ℕ) → starts_with nat_eq (form exact s) (form exact t) ≡ true → is_le (key_cmp (folded t) (folded s)) ≡ true
prefix_below true s t h = prefix_le (folded t) (folded s) (folded_prefix t s h)
prefix_below false s t h = prefix_le (folded t) (folded s) h

-- NUMBERS AND TEXTS IN ORDER

nothing_there : {A : Type 0} → false ≡ true → A
nothing_there h = absurd cc

-- only two numbers and two texts are in order
pub ordered : (by : Ordering → Bool) (exact : Bool) (P : Scalar → Scalar → Type 0)
    → ((m n : ℤ) → by (int_cmp m n) ≡ true → P (number m) (number n))
    → ((s t : List ℕ) → by (key_cmp (form exact s) (form exact t)) ≡ true → P (words s) (words t))
    → (v a : Scalar) → in_order by exact v a ≡ true → P v a
ordered by exact P numbers texts (number m) (number n) h = numbers m n h
ordered by exact P numbers texts (words s) (words t) h = texts s t h
ordered by exact P numbers texts nothing a h = nothing_there h
ordered by exact P numbers texts (truth b) a h = nothing_there h
ordered by exact P numbers texts (number m) nothing h = nothing_there h
ordered by exact P numbers texts (number m) (truth b) h = nothing_there h
ordered by exact P numbers texts (number m) (words t) h = nothing_there h
ordered by exact P numbers texts (words s) nothing h = nothing_there h
ordered by exact P numbers texts (words s) (truth b) h = nothing_there h
ordered by exact P numbers texts (words s) (number n) h = nothing_there h

-- EACH EDGE

module _ (x : List ℕ) where
  lt_number : (o r : Ordering) → is_lt o ≡ true → is_le (ordering_then (ordering_then o Equal) r) ≡ true
  lt_number o r h = lt_then (ordering_then o Equal) r (ap is_lt (sym (then_Equal o)) ∙ h)

  le_number : (o r : Ordering) → is_le o ≡ true → is_le r ≡ true → is_le (ordering_then (ordering_then o Equal) r) ≡ true
  le_number o r h g = le_then (ordering_then o Equal) r (ap is_le (sym (then_Equal o)) ∙ h) g

  after_it : (exact : Bool) (v a : Scalar) → in_order is_gt exact v a ≡ true → is_le (mark_cmp (start_after exact a) (at_id v x)) ≡ true
  after_it exact = ordered is_gt exact (λ v a. is_le (mark_cmp (start_after exact a) (at_id v x)) ≡ true) (λ m n h. lt_number (int_cmp n m) _ (ap is_lt (int_cmp_total.antisymm n m) ∙ back_gt (int_cmp m n) h)) (texts exact)
    where
      texts : (e : Bool) (s t : List ℕ) → is_gt (key_cmp (form e s) (form e t)) ≡ true → is_le (mark_cmp (start_after e (words t)) (at_id (words s) x)) ≡ true
      texts true s t h = first_of_texts s x
      texts false s t h = lt_then (key_cmp (folded t) (folded s)) _ (ap is_lt (nat_list_cmp_total.antisymm (folded t) (folded s)) ∙ back_gt (key_cmp (folded s) (folded t)) h)

  at_or_after_it : (exact : Bool) (v a : Scalar) → in_order is_ge exact v a ≡ true → is_le (mark_cmp (start_at exact a) (at_id v x)) ≡ true
  at_or_after_it exact = ordered is_ge exact (λ v a. is_le (mark_cmp (start_at exact a) (at_id v x)) ≡ true) (λ m n h. le_number (int_cmp n m) _ (ap is_le (int_cmp_total.antisymm n m) ∙ back_ge (int_cmp m n) h) refl) (texts exact)
    where
      texts : (e : Bool) (s t : List ℕ) → is_ge (key_cmp (form e s) (form e t)) ≡ true → is_le (mark_cmp (start_at e (words t)) (at_id (words s) x)) ≡ true
      texts true s t h = first_of_texts s x
      texts false s t h = le_then (key_cmp (folded t) (folded s)) _ (ap is_le (nat_list_cmp_total.antisymm (folded t) (folded s)) ∙ back_ge (key_cmp (folded s) (folded t)) h) refl

  before_it : (exact : Bool) (v a : Scalar) → in_order is_lt exact v a ≡ true → is_le (mark_cmp (at_id v x) (end_before exact a)) ≡ true
  before_it exact = ordered is_lt exact (λ v a. is_le (mark_cmp (at_id v x) (end_before exact a)) ≡ true) (λ m n h. lt_number (int_cmp m n) _ h) (texts exact)
    where
      texts : (e : Bool) (s t : List ℕ) → is_lt (key_cmp (form e s) (form e t)) ≡ true → is_le (mark_cmp (at_id (words s) x) (end_before e (words t))) ≡ true
      texts true s t h = refl
      texts false s t h = lt_then (key_cmp (folded s) (folded t)) _ h

  at_or_before_it : (exact : Bool) (v a : Scalar) → in_order is_le exact v a ≡ true → is_le (mark_cmp (at_id v x) (end_at exact a)) ≡ true
  at_or_before_it exact = ordered is_le exact (λ v a. is_le (mark_cmp (at_id v x) (end_at exact a)) ≡ true) (λ m n h. le_number (int_cmp m n) _ h refl) (texts exact)
    where
      texts : (e : Bool) (s t : List ℕ) → is_le (key_cmp (form e s) (form e t)) ≡ true → is_le (mark_cmp (at_id (words s) x) (end_at e (words t))) ≡ true
      texts true s t h = refl
      texts false s t h = le_then (key_cmp (folded s) (folded t)) _ h refl

  kind_starts : (by : Ordering → Bool) (exact : Bool) (v a : Scalar) → in_order by exact v a ≡ true → is_le (mark_cmp (kind_start a) (at_id v x)) ≡ true
  kind_starts by exact = ordered by exact (λ v a. is_le (mark_cmp (kind_start a) (at_id v x)) ≡ true) (λ m n h. refl) (λ s t h. first_of_texts s x)

  kind_ends : (by : Ordering → Bool) (exact : Bool) (v a : Scalar) → in_order by exact v a ≡ true → is_le (mark_cmp (at_id v x) (kind_end a)) ≡ true
  kind_ends by exact = ordered by exact (λ v a. is_le (mark_cmp (at_id v x) (kind_end a)) ≡ true) (λ m n h. refl) (λ s t h. refl)

  there : (v : Scalar) (exact : Bool) → holds There exact v ≡ true → is_le (mark_cmp (after nothing) (at_id v x)) ≡ true
  there nothing exact h = nothing_there h
  there (truth true) exact h = refl
  there (truth false) exact h = refl
  there (number n) exact h = refl
  there (words s) exact h = refl

  prefixed : (t : List ℕ) (v : Scalar) (exact : Bool) → holds (Starts t) exact v ≡ true → is_le (mark_cmp (before (words t)) (at_id v x)) ≡ true
  prefixed t (words s) exact h = le_then (key_cmp (folded t) (folded s)) _ (prefix_below exact s t h) refl
  prefixed t nothing exact h = nothing_there h
  prefixed t (truth b) exact h = nothing_there h
  prefixed t (number n) exact h = nothing_there h

  pub low_covers : (test : Test) (exact : Bool) (v : Scalar) → holds test exact v ≡ true → is_le (mark_cmp (low_edge test exact) (at_id v x)) ≡ true
  low_covers (Is a) exact v h = ap (λ o. is_le (ordering_then o Less)) (tied_back v a (alike_tied exact v a h))
  low_covers (Not a) exact v h = first_of_all v x
  low_covers (Below a) exact v h = kind_starts is_lt exact v a h
  low_covers (AtMost a) exact v h = kind_starts is_le exact v a h
  low_covers (Above a) exact v h = after_it exact v a h
  low_covers (AtLeast a) exact v h = at_or_after_it exact v a h
  low_covers (Between a b) exact v h = at_or_after_it exact v a (both_left (in_order is_ge exact v a) _ h)
  low_covers (In as') exact v h = first_of_all v x
  low_covers (Starts t) exact v h = prefixed t v exact h
  low_covers There exact v h = there v exact h

  pub high_covers : (test : Test) (exact : Bool) (v : Scalar) → holds test exact v ≡ true → is_le (mark_cmp (at_id v x) (high_edge test exact)) ≡ true
  high_covers (Is a) exact v h = ap (λ o. is_le (ordering_then o Less)) (alike_tied exact v a h)
  high_covers (Not a) exact v h = last_of_all v x
  high_covers (Below a) exact v h = before_it exact v a h
  high_covers (AtMost a) exact v h = at_or_before_it exact v a h
  high_covers (Above a) exact v h = kind_ends is_gt exact v a h
  high_covers (AtLeast a) exact v h = kind_ends is_ge exact v a h
  high_covers (Between a b) exact v h = at_or_before_it exact v b (both_right (in_order is_ge exact v a) _ h)
  high_covers (In as') exact v h = last_of_all v x
  high_covers (Starts t) exact v h = last_of_all v x
  high_covers There exact v h = last_of_all v x
