-- Each value between the edges of a span meets its test.
use Rattle.std.proofs.Common.{◌≡◌, ℕ, List, [], ◌∷◌, Bool, true, false, ◌&&◌, Some, Ordering, Less, Equal, Greater, ℤ, refl, sym, ap, ◌∙◌}
use Rattle.std.specs.Ordering.{nat_cmp, int_cmp, ordering_then, ordering_reverse, is_lt, is_le, is_gt, is_ge, is_eq}
use Rattle.std.specs.Cmp.{int_cmp_total}
use Rattle.std.specs.Cmp.Lexicographic.{nat_list_cmp_total}
use Rattle.std.proofs.lemmas.Map.Text.{is_eq-slice_cmp}
use Rattle.spec_data.specs.Folding.{folded, key_cmp}
use Rattle.spec_data.specs.Scalars.{Scalar, nothing, truth, number, words, rank, alike, in_order, holds, Test, Is, Not, Below, AtMost, Above, AtLeast, Between, In, Starts, There}
use Rattle.term_index.specs.Marks.{Mark, mark_cmp, value_cmp, kind, at_id, before, after, past_all}
use Rattle.term_index.specs.Edges.{low_edge, high_edge, kind_start, kind_end, before_texts, unless_exact, are_in_line, is_one_run, is_span}
use Rattle.term_index.specs.Totals.{values_total}
use Rattle.term_index.proofs.Orders.{folded-other}

never : {A : Type 0} → false ≡ true → A
never h = absurd cc

-- ORDERS IN TURN

then_le : (o r : Ordering) → is_le (ordering_then o r) ≡ true → is_le o ≡ true
then_le Less r h = refl
then_le Equal r h = refl
then_le Greater r h = h

then_lt : (o : Ordering) → is_le (ordering_then o Greater) ≡ true → is_lt o ≡ true
then_lt Less h = refl
then_lt Equal h = h
then_lt Greater h = h

ends_Equal : (o : Ordering) → ordering_then o Equal ≡ o
ends_Equal Less = refl
ends_Equal Equal = refl
ends_Equal Greater = refl

back_lt : (o : Ordering) → is_lt o ≡ true → is_gt (ordering_reverse o) ≡ true
back_lt Less h = refl
back_lt Equal h = h
back_lt Greater h = h

back_le : (o : Ordering) → is_le o ≡ true → is_ge (ordering_reverse o) ≡ true
back_le Less h = refl
back_le Equal h = refl
back_le Greater h = h

-- at most and at least is equal
both_le : (o : Ordering) → is_le o ≡ true → is_le (ordering_reverse o) ≡ true → o ≡ Equal
both_le Less h g = never g
both_le Equal h g = refl
both_le Greater h g = never h

both : (a b : Bool) → a ≡ true → b ≡ true → a && b ≡ true
both a b h g = ap (λ c. c && b) h ∙ g

-- EQUAL VALUES

-- the place of a value is that of no other, unless the two are texts that are compared exactly
tied_alike : (exact : Bool) (v a : Scalar) → is_one_run exact a ≡ true → value_cmp (Some v) (Some a) ≡ Equal → alike exact v a ≡ true
tied_alike true (words s) (words t) run h = never run
tied_alike false (words s) (words t) run h = sym (is_eq-slice_cmp (folded s) (folded t)) ∙ ap is_eq h
tied_alike exact (words s) nothing run h = ap is_eq (sym (folded-other (words s) nothing refl) ∙ h)
tied_alike exact (words s) (truth b) run h = ap is_eq (sym (folded-other (words s) (truth b) refl) ∙ h)
tied_alike exact (words s) (number n) run h = ap is_eq (sym (folded-other (words s) (number n) refl) ∙ h)
tied_alike exact nothing a run h = ap is_eq (sym (folded-other nothing a refl) ∙ h)
tied_alike exact (truth b) a run h = ap is_eq (sym (folded-other (truth b) a refl) ∙ h)
tied_alike exact (number n) a run h = ap is_eq (sym (folded-other (number n) a refl) ∙ h)

-- VALUES IN LINE

-- two values in line have the edges of their own
plain_left : (exact : Bool) (a b : Scalar) (all edge : Mark) → are_in_line exact a b ≡ true → unless_exact exact a all edge ≡ edge
plain_left false (words s) b all edge line = refl
plain_left true (words s) nothing all edge line = never line
plain_left true (words s) (truth c) all edge line = never line
plain_left true (words s) (number n) all edge line = never line
plain_left true (words s) (words t) all edge line = never line
plain_left exact nothing b all edge line = refl
plain_left exact (truth c) b all edge line = refl
plain_left exact (number m) b all edge line = refl

plain_right : (exact : Bool) (a b : Scalar) (all edge : Mark) → are_in_line exact a b ≡ true → unless_exact exact b all edge ≡ edge
plain_right false a (words t) all edge line = refl
plain_right true nothing (words t) all edge line = never line
plain_right true (truth c) (words t) all edge line = never line
plain_right true (number m) (words t) all edge line = never line
plain_right true (words s) (words t) all edge line = never line
plain_right exact a nothing all edge line = refl
plain_right exact a (truth c) all edge line = refl
plain_right exact a (number n) all edge line = refl

-- a value whose kind is that of two values in line is in line with them
in_line : (P : Bool → Scalar → Scalar → Scalar → Type 0)
    → ((exact : Bool) (k m n : ℤ) → P exact (number k) (number m) (number n))
    → ((r s t : List ℕ) → P false (words r) (words s) (words t))
    → (exact : Bool) (a b v : Scalar) → are_in_line exact a b ≡ true → is_le (nat_cmp (rank a) (rank v)) ≡ true → is_le (nat_cmp (rank v) (rank b)) ≡ true → P exact v a b
in_line P numbers texts exact (number m) (number n) (number k) line low high = numbers exact k m n
in_line P numbers texts exact (number m) (number n) nothing line low high = never low
in_line P numbers texts exact (number m) (number n) (truth true) line low high = never low
in_line P numbers texts exact (number m) (number n) (truth false) line low high = never low
in_line P numbers texts exact (number m) (number n) (words r) line low high = never high
in_line P numbers texts false (words s) (words t) (words r) line low high = texts r s t
in_line P numbers texts false (words s) (words t) nothing line low high = never low
in_line P numbers texts false (words s) (words t) (truth true) line low high = never low
in_line P numbers texts false (words s) (words t) (truth false) line low high = never low
in_line P numbers texts false (words s) (words t) (number k) line low high = never low
in_line P numbers texts true (words s) (words t) v line low high = never line
in_line P numbers texts exact nothing b v line low high = never line
in_line P numbers texts exact (truth c) b v line low high = never line
in_line P numbers texts exact (number m) nothing v line low high = never line
in_line P numbers texts exact (number m) (truth c) v line low high = never line
in_line P numbers texts exact (number m) (words t) v line low high = never line
in_line P numbers texts exact (words s) nothing v line low high = never line
in_line P numbers texts exact (words s) (truth c) v line low high = never line
in_line P numbers texts exact (words s) (number n) v line low high = never line

lt_number : (o : Ordering) → is_le (ordering_then (ordering_then o Equal) Greater) ≡ true → is_lt o ≡ true
lt_number o h = then_lt o (ap (λ p. is_le (ordering_then p Greater)) (sym (ends_Equal o)) ∙ h)

le_number : (o : Ordering) → is_le (ordering_then (ordering_then o Equal) Less) ≡ true → is_le o ≡ true
le_number o h = ap is_le (sym (ends_Equal o)) ∙ then_le (ordering_then o Equal) Less h

-- EACH EDGE

module _ (x : List ℕ) where
  abbrev From : Mark → Scalar → Type 0
  From m v = is_le (mark_cmp m (at_id v x)) ≡ true

  abbrev UpTo : Mark → Scalar → Type 0
  UpTo m v = is_le (mark_cmp (at_id v x) m) ≡ true

  from_rank : (m : Mark) (v : Scalar) → From m v → is_le (nat_cmp (kind m.value) (rank v)) ≡ true
  from_rank m v h = then_le (nat_cmp (kind m.value) (rank v)) _ (then_le (value_cmp m.value (Some v)) _ h)

  up_to_rank : (m : Mark) (v : Scalar) → UpTo m v → is_le (nat_cmp (rank v) (kind m.value)) ≡ true
  up_to_rank m v h = then_le (nat_cmp (rank v) (kind m.value)) _ (then_le (value_cmp (Some v) m.value) _ h)

  start_rank : (exact : Bool) (a v : Scalar) → are_in_line exact a a ≡ true → From (kind_start a) v → is_le (nat_cmp (rank a) (rank v)) ≡ true
  start_rank exact (number n) nothing line h = never h
  start_rank exact (number n) (truth true) line h = never h
  start_rank exact (number n) (truth false) line h = never h
  start_rank exact (number n) (number k) line h = refl
  start_rank exact (number n) (words r) line h = refl
  start_rank exact (words t) v line h = from_rank (before (words [])) v h
  start_rank exact nothing v line h = never line
  start_rank exact (truth c) v line h = never line

  end_rank : (exact : Bool) (a v : Scalar) → are_in_line exact a a ≡ true → UpTo (kind_end a) v → is_le (nat_cmp (rank v) (rank a)) ≡ true
  end_rank exact (number n) nothing line h = refl
  end_rank exact (number n) (truth true) line h = refl
  end_rank exact (number n) (truth false) line h = refl
  end_rank exact (number n) (number k) line h = refl
  end_rank exact (number n) (words []) line h = never h
  end_rank exact (number n) (words (b ∷ bs)) line h = never h
  end_rank exact (words t) nothing line h = refl
  end_rank exact (words t) (truth true) line h = refl
  end_rank exact (words t) (truth false) line h = refl
  end_rank exact (words t) (number k) line h = refl
  end_rank exact (words t) (words r) line h = refl
  end_rank exact nothing v line h = never line
  end_rank exact (truth c) v line h = never line

  -- the edges of a bound itself
  below_it : (exact : Bool) (a b v : Scalar) → are_in_line exact a b ≡ true → is_le (nat_cmp (rank a) (rank v)) ≡ true → is_le (nat_cmp (rank v) (rank b)) ≡ true → UpTo (before b) v → in_order is_lt exact v b ≡ true
  below_it = in_line (λ exact v a b. UpTo (before b) v → in_order is_lt exact v b ≡ true) (λ exact k m n. lt_number (int_cmp k n)) (λ r s t. then_lt (key_cmp (folded r) (folded t)))

  at_most_it : (exact : Bool) (a b v : Scalar) → are_in_line exact a b ≡ true → is_le (nat_cmp (rank a) (rank v)) ≡ true → is_le (nat_cmp (rank v) (rank b)) ≡ true → UpTo (after b) v → in_order is_le exact v b ≡ true
  at_most_it = in_line (λ exact v a b. UpTo (after b) v → in_order is_le exact v b ≡ true) (λ exact k m n. le_number (int_cmp k n)) (λ r s t. then_le (key_cmp (folded r) (folded t)) Less)

  above_it : (exact : Bool) (a b v : Scalar) → are_in_line exact a b ≡ true → is_le (nat_cmp (rank a) (rank v)) ≡ true → is_le (nat_cmp (rank v) (rank b)) ≡ true → From (after a) v → in_order is_gt exact v a ≡ true
  above_it =
      in_line (λ exact v a b. From (after a) v → in_order is_gt exact v a ≡ true)
      (λ exact k m n h. ap is_gt (int_cmp_total.antisymm k m) ∙ back_lt (int_cmp m k) (lt_number (int_cmp m k) h))
      (λ r s t h. ap is_gt (nat_list_cmp_total.antisymm (folded r) (folded s)) ∙ back_lt (key_cmp (folded s) (folded r)) (then_lt (key_cmp (folded s) (folded r)) h))

  at_least_it : (exact : Bool) (a b v : Scalar) → are_in_line exact a b ≡ true → is_le (nat_cmp (rank a) (rank v)) ≡ true → is_le (nat_cmp (rank v) (rank b)) ≡ true → From (before a) v → in_order is_ge exact v a ≡ true
  at_least_it =
      in_line (λ exact v a b. From (before a) v → in_order is_ge exact v a ≡ true)
      (λ exact k m n h. ap is_ge (int_cmp_total.antisymm k m) ∙ back_le (int_cmp m k) (le_number (int_cmp m k) h))
      (λ r s t h. ap is_ge (nat_list_cmp_total.antisymm (folded r) (folded s)) ∙ back_le (key_cmp (folded s) (folded r)) (then_le (key_cmp (folded s) (folded r)) Less h))

  -- a bound in line has an edge of its own
  from_plain : (exact : Bool) (a b v : Scalar) (all edge : Mark) → are_in_line exact a b ≡ true → From (unless_exact exact a all edge) v → From edge v
  from_plain exact a b v all edge line h = ap (λ m. is_le (mark_cmp m (at_id v x))) (sym (plain_left exact a b all edge line)) ∙ h

  up_to_plain : (exact : Bool) (a b v : Scalar) (all edge : Mark) → are_in_line exact a b ≡ true → UpTo (unless_exact exact b all edge) v → UpTo edge v
  up_to_plain exact a b v all edge line h = ap (λ m. is_le (mark_cmp (at_id v x) m)) (sym (plain_right exact a b all edge line)) ∙ h

  is_there : (exact : Bool) (v : Scalar) → From (after nothing) v → holds There exact v ≡ true
  is_there exact nothing h = never h
  is_there exact (truth b) h = refl
  is_there exact (number n) h = refl
  is_there exact (words s) h = refl

  pub span_meets : (test : Test) (exact : Bool) (v : Scalar) → is_span test exact ≡ true → From (low_edge test exact) v → UpTo (high_edge test exact) v → holds test exact v ≡ true
  span_meets (Is a) exact v span low high =
      tied_alike exact v a span (both_le (value_cmp (Some v) (Some a)) (then_le (value_cmp (Some v) (Some a)) _ high) (ap is_le (sym (values_total.antisymm (Some a) (Some v))) ∙ then_le (value_cmp (Some a) (Some v)) _ low))
  span_meets (Below a) exact v span low high =
      let to = up_to_plain exact a a v past_all (before a) span high in
      below_it exact a a v span (start_rank exact a v span low) (up_to_rank (before a) v to) to
  span_meets (AtMost a) exact v span low high =
      let to = up_to_plain exact a a v past_all (after a) span high in
      at_most_it exact a a v span (start_rank exact a v span low) (up_to_rank (after a) v to) to
  span_meets (Above a) exact v span low high =
      let from = from_plain exact a a v before_texts (after a) span low in
      above_it exact a a v span (from_rank (after a) v from) (end_rank exact a v span high) from
  span_meets (AtLeast a) exact v span low high =
      let from = from_plain exact a a v before_texts (before a) span low in
      at_least_it exact a a v span (from_rank (before a) v from) (end_rank exact a v span high) from
  span_meets (Between a b) exact v span low high =
      let from = from_plain exact a b v before_texts (before a) span low in
      let to = up_to_plain exact a b v past_all (after b) span high in
      let over = from_rank (before a) v from in
      let under = up_to_rank (after b) v to in
      both (in_order is_ge exact v a) (in_order is_le exact v b) (at_least_it exact a b v span over under from) (at_most_it exact a b v span over under to)
  span_meets There exact v span low high = is_there exact v low
  span_meets (Not a) exact v span low high = never span
  span_meets (In as') exact v span low high = never span
  span_meets (Starts t) exact v span low high = never span
