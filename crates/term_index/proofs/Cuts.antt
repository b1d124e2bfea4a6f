-- Lists that are cut at a value: the terms from the greatest value on.
use Rattle.std.proofs.Common.{◌≡◌, ℕ, zero, suc, ◌+◌, ◌-◌, ◌<◌, ◌≤◌, ◌⊎◌, List, [], ◌∷◌, ◌++◌, filter, length, map, drop, take, drop_of_length-le, append-nil, Bool, true, false, cond, Option, Some, None, slice_get, option_map, Ordering, Less, Equal, Greater, append_assoc, ⊎_elim, refl, sym, ap, subst, ◌∙◌, arith}
use Rattle.std.specs.Ordering.{is_gt, is_le, is_lt, ordering_reverse, ordering_then}
use Rattle.std.proofs.lemmas.Bool.{cases_lt}
use Rattle.std.proofs.lemmas.List.{drop-append-le, drop-drop, drop-take, length-drop, length-take-le, map-append, take-append-drop, take-take, take_all}
use Rattle.std.proofs.Math.Seq.{drop-append-add}
use Rattle.std.specs.Cmp.{on_total}
use Rattle.std.proofs.lemmas.Cmp.{tied_itself}
use Rattle.spec_data.specs.Folding.{folded}
use Rattle.spec_data.specs.Scalars.{Scalar, nothing}
use Rattle.spec_query.specs.Sorting.{inserted, sorted}
use Rattle.raven_value.specs.ScalarView.{scalar_view}
use Rattle.paged_map.specs.Pairs.{IsRising}
use Rattle.paged_map.specs.Range.{between}
use Rattle.term_index.specs.Cuts.{IsCut, IsRunAt, is_upto}
use Rattle.term_index.specs.Held.{AreTerms, IsTerm, Pairs, held}
use Rattle.term_index.specs.KeyView.{by_mark, mark_of}
use Rattle.term_index.specs.Lines.{AllInLine}
use Rattle.term_index.specs.Marks as mark
use Rattle.term_index.specs.Marks.{Mark, before, after}
use Rattle.term_index.specs.Ordered.{by_value}
use Rattle.term_index.specs.Totals.{marks_total, values_total}
use Rattle.term_index.specs.declared.key.Key.{Key}
use Rattle.term_index.specs.declared.key.Key.TheVariants as k
use Rattle.term_index.specs.declared.key.Term.{Term}
use Rattle.term_index.proofs.Lengths.{held_length}
use Rattle.term_index.proofs.Lined.{in_line_alike, none_taken, terms_between}
use Rattle.term_index.proofs.Places.{cut_between, nth_between}
use Rattle.term_index.proofs.Sorts.{ArePast, IsFirst, IsPast, IsUp, parts_sorted, up_is_sorted}

no : {A : Type 0} → false ≡ true → A
no h = absurd cc

never : {A : Type 0} → true ≡ false → A
never h = absurd cc

-- CUTS

module _ {X : Type 0} (p : X → Bool) where
  pub cut_take : (n m : ℕ) (xs : List X) → IsCut p n xs → IsCut p n (take m xs)
  cut_take n zero xs h = tt
  cut_take n (suc m) [] h = tt
  cut_take zero (suc m) (x ∷ xs) h = (h.0, cut_take zero m xs h.1)
  cut_take (suc n) (suc m) (x ∷ xs) h = (h.0, cut_take n m xs h.1)

  pub cut_drop : (a d n : ℕ) (xs : List X) → n ≡ a + d → IsCut p n xs → IsCut p d (drop a xs)
  cut_drop zero d n xs is h = subst (λ m. IsCut p m xs) (let e : n ≡ d = omega (arith, is) in e) h
  cut_drop (suc a) d n [] is h = tt
  cut_drop (suc a) d zero (x ∷ xs) is h = absurd (omega (arith, is))
  cut_drop (suc a) d (suc n) (x ∷ xs) is h = cut_drop a d n xs (omega (arith, is)) h.1

  pub cut_all : (n : ℕ) (xs : List X) → length xs ≤ n → IsCut p n xs → IsCut p (length xs) xs
  cut_all n [] l h = tt
  cut_all zero (x ∷ xs) l h = absurd (omega arith)
  cut_all (suc n) (x ∷ xs) l h = (h.0, cut_all n xs (omega arith) h.1)

  same_one : (x y : X) → Some x ≡ Some y → x ≡ y
  same_one x y h = cc

  pub cut_in : (n i : ℕ) (xs : List X) (x : X) → IsCut p n xs → slice_get xs i ≡ Some x → p x ≡ true → i < n
  cut_in n i [] x h g t = absurd cc
  cut_in zero zero (y ∷ ys) x h g t = no (sym h.0 ∙ (ap p (same_one y x g) ∙ t))
  cut_in zero (suc i) (y ∷ ys) x h g t = absurd (none (cut_in zero i ys x h.1 g t))
    where
      none : i < 0 → ⊥
      none l = omega arith
  cut_in (suc n) zero (y ∷ ys) x h g t = omega arith
  cut_in (suc n) (suc i) (y ∷ ys) x h g t = omega (arith, cut_in n i ys x h.1 g t)

  pub cut_out : (n i : ℕ) (xs : List X) (x : X) → IsCut p n xs → slice_get xs i ≡ Some x → p x ≡ false → n ≤ i
  cut_out n i [] x h g t = absurd cc
  cut_out zero i (y ∷ ys) x h g t = omega arith
  cut_out (suc n) zero (y ∷ ys) x h g t = no (sym t ∙ (sym (ap p (same_one y x g)) ∙ h.0))
  cut_out (suc n) (suc i) (y ∷ ys) x h g t = omega (arith, cut_out n i ys x h.1 g t)

-- CUTS AT A VALUE

abbrev compared : List ℕ × Scalar → List ℕ × Scalar → Ordering
compared x y = mark.value_cmp (Some x.1) (Some y.1)

-- all that are up to the mark are below all that are not
abbrev Splits : Mark → Type 0
Splits m = (x y : List ℕ × Scalar) → is_upto m x ≡ true → is_upto m y ≡ false → compared x y ≡ Less

back : (v w : Option Scalar) (r : Ordering) → mark.value_cmp v w ≡ r → mark.value_cmp w v ≡ ordering_reverse r
back v w r h = values_total.antisymm w v ∙ ap ordering_reverse h

before_only : (r : Ordering) → is_le (ordering_then r Greater) ≡ true → r ≡ Less
before_only Less h = refl
before_only Equal h = no h
before_only Greater h = no h

before_splits : (v : Scalar) → Splits (before v)
before_splits v x y h g =
    let below : mark.value_cmp (Some x.1) (Some v) ≡ Less = before_only _ h in
    elim (mark.value_cmp (Some y.1) (Some v)) as (λ r. mark.value_cmp (Some y.1) (Some v) ≡ r → is_le (ordering_then r Greater) ≡ false → compared x y ≡ Less) [
      | Less ↦ λ e n. never n
      | Equal ↦ λ e n. back (Some y.1) (Some x.1) Greater (values_total.congr (Some y.1) (Some v) (Some x.1) e ∙ back (Some x.1) (Some v) Less below)
      | Greater ↦ λ e n. values_total.trans (Some x.1) (Some v) (Some y.1) below (back (Some y.1) (Some v) Greater e)
    ] refl g

after_only : (r : Ordering) → is_le (ordering_then r Less) ≡ false → r ≡ Greater
after_only Less h = never h
after_only Equal h = never h
after_only Greater h = refl

after_splits : (v : Scalar) → Splits (after v)
after_splits v x y h g =
    let above : mark.value_cmp (Some v) (Some y.1) ≡ Less = back (Some y.1) (Some v) Greater (after_only _ g) in
    elim (mark.value_cmp (Some x.1) (Some v)) as (λ r. mark.value_cmp (Some x.1) (Some v) ≡ r → is_le (ordering_then r Less) ≡ true → compared x y ≡ Less) [
      | Less ↦ λ e n. values_total.trans (Some x.1) (Some v) (Some y.1) e above
      | Equal ↦ λ e n. values_total.congr (Some x.1) (Some v) (Some y.1) e ∙ above
      | Greater ↦ λ e n. no n
    ] refl h

module _ (long : Bool) where
  abbrev down : List ℕ × Scalar → List ℕ × Scalar → Ordering
  down = by_value long true

  line_drop : (n : ℕ) (xs : List (List ℕ × Scalar)) → AllInLine long xs → AllInLine long (drop n xs)
  line_drop zero xs l = l
  line_drop (suc n) [] l = tt
  line_drop (suc n) (x ∷ xs) l = line_drop n xs l.1

  pub line_take : (n : ℕ) (xs : List (List ℕ × Scalar)) → AllInLine long xs → AllInLine long (take n xs)
  line_take zero xs l = tt
  line_take (suc n) [] l = tt
  line_take (suc n) (x ∷ xs) l = (l.0, line_take n xs l.1)

  module _ (m : Mark) (splits : Splits m) where
    is_past : (x : List ℕ × Scalar) (ys : List (List ℕ × Scalar)) → is_upto m x ≡ true → AllInLine long (x ∷ []) → IsCut (is_upto m) 0 ys → AllInLine long ys → IsPast down x ys
    is_past x [] h l c ls = tt
    is_past x (y ∷ ys) h l c ls =
        (ap (λ r. is_gt (ordering_reverse r)) (sym (in_line_alike long x.1 y.1 (l.0 refl) (ls.0 refl)) ∙ splits x y h c.0), is_past x ys h l c.1 ls.1)

    are_past : (n : ℕ) (xs : List (List ℕ × Scalar)) → IsCut (is_upto m) n xs → AllInLine long xs → ArePast down (take n xs) (drop n xs)
    are_past zero xs c ls = tt
    are_past (suc n) [] c ls = tt
    are_past (suc n) (x ∷ xs) c ls =
        (is_past x (drop n xs) c.0 (ls.0, tt) (cut_drop (is_upto m) n 0 n xs (let e : n ≡ n + 0 = omega arith in e) c.1) (line_drop n xs ls.1), are_past n xs c.1 ls.1)

    cut_sorted : (n : ℕ) (xs : List (List ℕ × Scalar)) → IsCut (is_upto m) n xs → AllInLine long xs → sorted down xs ≡ sorted down (drop n xs) ++ sorted down (take n xs)
    cut_sorted n xs c ls = ap (sorted down) (sym (take-append-drop n xs)) ∙ parts_sorted down (take n xs) (drop n xs) (are_past n xs c ls)

  module _ (v : Scalar) where
    -- all have the value
    abbrev HaveIt : List (List ℕ × Scalar) → Type 0
    HaveIt [] = Unit {0}
    HaveIt (x ∷ xs) = (mark.value_cmp (Some x.1) (Some v) ≡ Equal) × HaveIt xs

    neither : (r : Ordering) → is_le (ordering_then r Greater) ≡ false → is_le (ordering_then r Less) ≡ true → r ≡ Equal
    neither Less h g = never h
    neither Equal h g = refl
    neither Greater h g = no g

    have_it : (n : ℕ) (xs : List (List ℕ × Scalar)) → IsCut (is_upto (before v)) 0 xs → IsCut (is_upto (after v)) n xs → HaveIt (take n xs)
    have_it zero xs b a = tt
    have_it (suc n) [] b a = tt
    have_it (suc n) (x ∷ xs) b a = (neither _ b.0 a.0, have_it n xs b.1 a.1)

    first_of_them : (x : List ℕ × Scalar) (ys : List (List ℕ × Scalar)) → mark.value_cmp (Some x.1) (Some v) ≡ Equal → AllInLine long (x ∷ []) → HaveIt ys → AllInLine long ys → IsFirst down x ys
    first_of_them x [] h l t ls = tt
    first_of_them x (y ∷ ys) h l t ls =
        (ap (λ r. is_gt (ordering_reverse r)) (sym (in_line_alike long x.1 y.1 (l.0 refl) (ls.0 refl)) ∙ (values_total.congr (Some x.1) (Some v) (Some y.1) h ∙ back (Some y.1) (Some v) Equal t.0)), first_of_them x ys h l t.1 ls.1)

    run_up : (xs : List (List ℕ × Scalar)) → HaveIt xs → AllInLine long xs → IsUp down xs
    run_up [] t ls = tt
    run_up (x ∷ xs) t ls = (first_of_them x xs t.0 (ls.0, tt) t.1 ls.1, run_up xs t.1 ls.1)

    -- after those of greater values come those of the value, and then those of less
    pub run_sorted : (a r : ℕ) (xs : List (List ℕ × Scalar)) → IsCut (is_upto (before v)) a xs → IsCut (is_upto (after v)) (a + r) xs → AllInLine long xs
        → sorted down xs ≡ sorted down (drop r (drop a xs)) ++ (take r (drop a xs) ++ sorted down (take a xs))
    run_sorted a r xs b c ls =
        let rest = drop a xs in
        let low = cut_drop (is_upto (before v)) a 0 a xs (let e : a ≡ a + 0 = omega arith in e) b in
        let high = cut_drop (is_upto (after v)) a r (a + r) xs refl c in
        let line = line_drop a xs ls in
        cut_sorted (before v) (before_splits v) a xs b ls
        ∙ (ap (λ l. l ++ sorted down (take a xs)) (cut_sorted (after v) (after_splits v) r rest high line
        ∙ ap (λ l. sorted down (drop r rest) ++ l) (up_is_sorted down (take r rest) (run_up (take r rest) (have_it r rest low high) (line_take r rest line))))
        ∙ append_assoc (sorted down (drop r rest)) (take r rest) (sorted down (take a xs)))

  inserted_length : (x : List ℕ × Scalar) (ys : List (List ℕ × Scalar)) → length (inserted down x ys) ≡ suc (length ys)
  inserted_length x [] = refl
  inserted_length x (y ∷ ys) = elim (is_gt (down x y)) as (λ b. length (cond b (y ∷ inserted down x ys) (x ∷ y ∷ ys)) ≡ suc (suc (length ys))) [ true ↦ ap suc (inserted_length x ys) | false ↦ refl ]

  pub sorted_length : (xs : List (List ℕ × Scalar)) → length (sorted down xs) ≡ length xs
  sorted_length [] = refl
  sorted_length (x ∷ xs) = inserted_length x (sorted down xs) ∙ ap suc (sorted_length xs)

-- ONE STEP DOWN

module _ {X : Type 0} where
  take_both : (n : ℕ) (xs ys : List X) → take n (xs ++ ys) ≡ take n xs ++ take (n - length xs) ys
  take_both zero xs ys = ap (λ m. take m ys) (let e : 0 ≡ 0 - length xs = omega arith in e)
  take_both (suc n) [] ys = ap (λ m. take m ys) (let e : suc n ≡ suc n - 0 = omega arith in e)
  take_both (suc n) (x ∷ xs) ys = ap (λ l. x ∷ l) (take_both n xs ys) ∙ ap (λ m. x ∷ (take n xs ++ take m ys)) (let e : n - length xs ≡ suc n - suc (length xs) = omega arith in e)

  take_more : (q n : ℕ) (xs : List X) → q ≤ n → take n (take q xs) ≡ take q xs
  take_more zero zero xs l = refl
  take_more zero (suc n) xs l = refl
  take_more (suc q) zero xs l = absurd (omega arith)
  take_more (suc q) (suc n) [] l = refl
  take_more (suc q) (suc n) (x ∷ xs) l = ap (λ ys. x ∷ ys) (take_more q n xs (omega arith))

  take_least : (left q m : ℕ) (xs : List X) → (left ≤ q → m ≡ left) → (q ≤ left → m ≡ q) → take left (take q xs) ≡ take m xs
  take_least left q m xs low high =
      ⊎_elim (λ l. let le : left ≤ q = omega (arith, l) in take-take left q xs le ∙ ap (λ n. take n xs) (sym (low le))) (λ l. take_more q left xs l ∙ ap (λ n. take n xs) (sym (high l))) (cases_lt left q)

module _ (long : Bool) (v : Scalar) (all : List (List ℕ × Scalar)) (a r off q end left skip m : ℕ) where
  -- the page so far goes on in the run of the value, and then below it
  pub step_down : IsCut (is_upto (before v)) a (take end all) → IsCut (is_upto (after v)) (a + r) (take end all) → AllInLine long all
      → a + r ≤ end → end ≤ length all → skip ≡ (end - (a + r)) + off → r ≡ off + q → (left ≤ q → m ≡ left) → (q ≤ left → m ≡ q)
      → take left (drop skip (sorted (by_value long true) (take end all))) ≡ take m (drop (a + off) all) ++ take (left - m) (sorted (by_value long true) (take a all))
  step_down low high line within enough is parts least most =
      let some = take end all in
      let rest = drop a some in
      let run = take r rest in
      let past = sorted (by_value long true) (drop r rest) in
      let below = sorted (by_value long true) (take a some) in
      let count : length some ≡ end = length-take-le end all enough in
      let behind : length rest ≡ end - a = length-drop a some ∙ ap (λ n. n - a) count in
      let many : length past ≡ end - (a + r) = sorted_length long (drop r rest) ∙ (length-drop r rest ∙ omega (arith, behind)) in
      let ran : length run ≡ r = length-take-le r rest (omega (arith, behind)) in
      let skipped : drop skip (past ++ (run ++ below)) ≡ drop off run ++ below =
      ap (λ n. drop n (past ++ (run ++ below))) (let e : skip ≡ length past + off = omega (arith, many, is) in e)
      ∙ (drop-append-add past (run ++ below) off ∙ drop-append-le off run below (omega (arith, ran, parts))) in
      let first : drop off run ≡ take q (drop (a + off) all) =
      ap (λ n. drop off (take n rest)) parts
      ∙ (drop-take off q rest
      ∙ (ap (take q) (drop-drop off a some
      ∙ (ap (λ n. drop (a + off) (take n all)) (let e : end ≡ (a + off) + (end - (a + off)) = omega (arith, within, parts) in e) ∙ drop-take (a + off) (end - (a + off)) all))
      ∙ take-take q (end - (a + off)) (drop (a + off) all) (omega (arith, within, parts)))) in
      let taken : length (drop off run) ≡ q = length-drop off run ∙ omega (arith, ran, parts) in
      ap (λ l. take left (drop skip l)) (run_sorted long v a r some low high (line_take long end all line))
      ∙ (ap (take left) skipped
      ∙ (take_both left (drop off run) below
      ∙ (ap (λ l. take left l ++ take (left - length (drop off run)) below) first
      ∙ (ap (λ l. l ++ take (left - length (drop off run)) below) (take_least left q m (drop (a + off) all) least most)
      ∙ (ap (λ n. take m (drop (a + off) all) ++ take n below) (lesser taken)
      ∙ ap (λ l. take m (drop (a + off) all) ++ take (left - m) (sorted (by_value long true) l)) (take-take a end all (omega (arith, within))))))))
    where
      lesser : {n : ℕ} → n ≡ q → left - n ≡ left - m
      lesser {n} h =
          ⊎_elim (λ l. let le : left ≤ q = omega (arith, l) in omega (arith, h, least le)) (λ l. omega (arith, h, most l)) (cases_lt left q)

-- TERMS

pub held_get : (i : ℕ) (es : Pairs) (t : Term) → AreTerms es → slice_get es i ≡ Some (k.At t, tt) → slice_get (held es) i ≡ Some (folded t.id, scalar_view t.value)
held_get i [] t a h = absurd cc
held_get zero ((k.At u, unit) ∷ es) t a h = ap (λ o. option_map of_key o) h
  where
    of_key : Key × Unit {0} → List ℕ × Scalar
    of_key e = key_of e.0
      where
        key_of : Key → List ℕ × Scalar
        key_of (k.At t) = (folded t.id, scalar_view t.value)
        key_of edge = ([], nothing)
held_get (suc i) ((k.At u, unit) ∷ es) t a h = held_get i es t a.1 h
held_get i ((k.Before w, unit) ∷ es) t a h = absurd a.0
held_get i ((k.After w, unit) ∷ es) t a h = absurd a.0
held_get i ((k.End, unit) ∷ es) t a h = absurd a.0

pub cut_held : (edge : Key) (n : ℕ) (es : Pairs) → AreTerms es → IsCut (λ (e : Key × Unit {0}). is_le (by_mark e.0 edge)) n es → IsCut (is_upto (mark_of edge)) n (held es)
cut_held edge n [] a h = tt
cut_held edge zero ((k.At t, unit) ∷ es) a h = (h.0, cut_held edge zero es a.1 h.1)
cut_held edge (suc n) ((k.At t, unit) ∷ es) a h = (h.0, cut_held edge n es a.1 h.1)
cut_held edge n ((k.Before w, unit) ∷ es) a h = absurd a.0
cut_held edge n ((k.After w, unit) ∷ es) a h = absurd a.0
cut_held edge n ((k.End, unit) ∷ es) a h = absurd a.0

-- the run of a term at a place of those between two edges
pub run_is : (low high under over : Key) (at end first past : ℕ) (t : Term) (es : Pairs) → IsRising by_mark es → AreTerms es
    → mark_of under ≡ before (scalar_view t.value) → mark_of over ≡ after (scalar_view t.value)
    → slice_get (between by_mark low high es) at ≡ Some (k.At t, tt) → at < end → end ≤ length (between by_mark low high es)
    → first ≡ length (between by_mark low under es) → (length (between by_mark low over es) < end → past ≡ length (between by_mark low over es)) → (end ≤ length (between by_mark low over es) → past ≡ end)
    → IsRunAt (held (between by_mark low high es)) end at first past
run_is low high under over at end first past t es s a u v get lt le is some all =
    let v0 = scalar_view t.value in
    let here : List ℕ × Scalar = (folded t.id, v0) in
    let now = between by_mark low high es in
    let terms = terms_between low high es a in
    let got = held_get at now t terms get in
    let below = subst (λ m. IsCut (is_upto m) (length (between by_mark low under es)) (held now)) u (cut_held under _ now terms (cut_between by_mark (on_total mark_of marks_total) low high under es s)) in
    let upto = subst (λ m. IsCut (is_upto m) (length (between by_mark low over es)) (held now)) v (cut_held over _ now terms (cut_between by_mark (on_total mark_of marks_total) low high over es s)) in
    let tie = tied_itself values_total (Some v0) in
    let from : first ≤ at = omega (arith, is, cut_out (is_upto (before v0)) _ at (held now) here below got (ap (λ r. is_le (ordering_then r Greater)) tie)) in
    let to : at < length (between by_mark low over es) = cut_in (is_upto (after v0)) _ at (held now) here upto got (ap (λ r. is_le (ordering_then r Less)) tie) in
    let cut = cut_take (is_upto (after v0)) _ end (held now) upto in
    let enough : length (take end (held now)) ≡ end = length-take-le end (held now) (omega (arith, le, held_length now terms)) in
    record {
      value = v0;
      low = subst (λ n. IsCut (is_upto (before v0)) n (take end (held now))) (sym is) (cut_take (is_upto (before v0)) _ end (held now) below);
      high = ⊎_elim
          (λ l. subst (λ n. IsCut (is_upto (after v0)) n (take end (held now))) (sym (some l)) cut)
          (λ l. subst (λ n. IsCut (is_upto (after v0)) n (take end (held now))) (enough ∙ sym (all l)) (cut_all (is_upto (after v0)) _ (take end (held now)) (omega (arith, enough, l)) cut))
          (cases_lt (length (between by_mark low over es)) end);
      from = from;
      upto = ⊎_elim (λ l. let e = some l in omega (arith, e, to)) (λ l. let e = all l in omega (arith, e, lt)) (cases_lt (length (between by_mark low over es)) end);
      within = ⊎_elim (λ l. let e = some l in omega (arith, e, l)) (λ l. let e = all l in omega (arith, e)) (cases_lt (length (between by_mark low over es)) end);
    }

-- PAGES

pub page_step : (long : Bool) (all : List (List ℕ × Scalar)) (ids part more : List (List ℕ)) (end at first past skip left from m : ℕ) → IsRunAt all end at first past → AllInLine long all
    → end ≤ length all → skip < end → at ≡ end - 1 - skip → from ≡ past - (end - skip - first)
    → (left ≤ end - skip - first → m ≡ left) → (end - skip - first ≤ left → m ≡ end - skip - first)
    → map folded part ≡ map (λ e. e.0) (take m (drop from all)) → more ≡ ids ++ part
    → map folded more ++ map (λ e. e.0) (take (left - m) (sorted (by_value long true) (take first all))) ≡ map folded ids ++ map (λ e. e.0) (take left (drop skip (sorted (by_value long true) (take end all))))
page_step long all ids part more end at first past skip left from m run line enough some place start least most found adds =
    let q = end - skip - first in
    let r = past - first in
    let off = skip - (end - past) in
    let rest = take (left - m) (sorted (by_value long true) (take first all)) in
    let reach : past ≡ first + r = omega (arith, run.from, run.upto) in
    let step = step_down long run.value all first r off q end left skip m run.low (subst (λ n. IsCut (is_upto (after run.value)) n (take end all)) reach run.high) line
    (omega (arith, run.from, run.upto, run.within)) enough (omega (arith, run.from, run.upto, run.within, place, some)) (omega (arith, run.from, run.upto, run.within, place, some)) least most in
    let begins : from ≡ first + off = omega (arith, run.from, run.upto, run.within, place, some, start) in
    ap (λ l. map folded l ++ map (λ e. e.0) rest) adds
    ∙ (ap (λ l. l ++ map (λ e. e.0) rest) (map-append folded ids part)
    ∙ (append_assoc (map folded ids) (map folded part) (map (λ e. e.0) rest)
    ∙ (ap (λ l. map folded ids ++ (l ++ map (λ e. e.0) rest)) (found ∙ ap (λ n. map (λ e. e.0) (take m (drop n all))) begins)
    ∙ (ap (λ l. map folded ids ++ l) (sym (map-append (λ (e : List ℕ × Scalar). e.0) (take m (drop (first + off) all)) rest))
    ∙ ap (λ l. map folded ids ++ map (λ e. e.0) l) (sym step)))))

pub page_begins : (long : Bool) (all : List (List ℕ × Scalar)) (end start size : ℕ) → end ≡ length all → map (λ e. e.0) (take size (drop start (sorted (by_value long true) (take end all)))) ≡ map (λ e. e.0) (take size (drop start (sorted (by_value long true) all)))
page_begins long all end start size is = ap (λ l. map (λ e. e.0) (take size (drop start (sorted (by_value long true) l)))) (take_all end all (omega (arith, is)))

pub page_ends : (long : Bool) (all : List (List ℕ × Scalar)) (ids : List (List ℕ)) (end skip left : ℕ) → ((left ≡ 0) ⊎ (end ≤ skip)) → end ≤ length all
    → map folded ids ++ map (λ e. e.0) (take left (drop skip (sorted (by_value long true) (take end all)))) ≡ map folded ids
page_ends long all ids end skip left over enough =
    ap (λ (l : List (List ℕ × Scalar)). map folded ids ++ map (λ e. e.0) l) (⊎_elim none_wanted none_there over) ∙ append-nil (map folded ids)
  where
    rest : List (List ℕ × Scalar)
    rest = drop skip (sorted (by_value long true) (take end all))

    none_wanted : left ≡ 0 → take left rest ≡ []
    none_wanted h = ap (λ n. take n rest) h

    none_there : end ≤ skip → take left rest ≡ []
    none_there h = none_taken left rest (drop_of_length-le (sorted (by_value long true) (take end all)) (omega (arith, h, sorted_length long (take end all), length-take-le end all enough)))

-- A PLACE THAT IS THERE

pub at_place : (low high : Key) (base at end : ℕ) (es : Pairs) → IsRising by_mark es → base ≡ length (filter (λ (e : Key × Unit {0}). is_lt (by_mark e.0 low)) es) → at < end → end ≤ length (between by_mark low high es)
    → slice_get es (base + at) ≡ slice_get (between by_mark low high es) at
at_place low high base at end es s is lt le = ap (λ n. slice_get es (n + at)) is ∙ nth_between by_mark (on_total mark_of marks_total) low high at es s (omega (arith, lt, le))

pub there_is : (i : ℕ) (es : Pairs) → i < length es → slice_get es i ≡ None → ⊥
there_is i [] l h = absurd (omega (arith, l))
there_is zero (e ∷ es) l h = absurd cc
there_is (suc i) (e ∷ es) l h = there_is i es (omega (arith, l)) h

pub is_term : (i : ℕ) (es : Pairs) (e : Key × Unit {0}) → AreTerms es → slice_get es i ≡ Some e → IsTerm e.0
is_term i [] e a h = absurd cc
is_term zero (x ∷ xs) e a h = let is : x ≡ e = cc in subst (λ (y : Key × Unit {0}). IsTerm y.0) is a.0
is_term (suc i) (x ∷ xs) e a h = is_term i xs e a.1 h

pub no_edge : (key : Key) → IsTerm key → ((t : Term) → key ≡ k.At t → ⊥) → ⊥
no_edge (k.At t) a n = n t refl
no_edge (k.Before v) a n = a
no_edge (k.After v) a n = a
no_edge k.End a n = a
