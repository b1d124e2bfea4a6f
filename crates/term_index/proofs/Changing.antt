-- Where the answer of a test changes along the terms of a field.
use Rattle.std.proofs.Common.{◌≡◌, ℕ, zero, suc, ◌<◌, ◌≤◌, nat_eq, List, [], ◌∷◌, ◌++◌, length, Bool, true, false, not, ◌||◌, ◌&&◌, Option, Some, None, option_map, slice_get, ⊎_elim, refl, sym, ap, ◌∙◌, arith}
use Rattle.std.proofs.lemmas.Bool.{cases_lt}
use Rattle.std.proofs.lemmas.Bool.Decides.{nat_tests}
use Rattle.std.specs.Cmp.{IsTotalOrder, on_total}
use Rattle.std.specs.Ordering.{is_le, is_lt}
use Rattle.std.proofs.lemmas.Cmp.{tied_itself}
use Rattle.spec_data.specs.Scalars.{Scalar, nothing, truth, number, words, holds, Test, Is, Not, Below, AtMost, Above, AtLeast, Between, In, Starts, There}
use Rattle.raven_value.specs.ScalarView.{scalar_view}
use Rattle.paged_map.specs.Pairs.{IsRising}
use Rattle.term_index.specs.Cuts.{IsCut}
use Rattle.term_index.specs.Edges.{high_edge, is_prefix, is_span, kind_end, low_edge, unless_exact}
use Rattle.term_index.specs.Held.{AreTerms, Pairs}
use Rattle.term_index.specs.KeyView.{by_mark, mark_of}
use Rattle.term_index.specs.Marks.{Mark, at_id, mark_cmp}
use Rattle.term_index.specs.Steps.{AreAmong, AreFromTo, AreWithin, HaveOneAnswer, StepsAt, is_place}
use Rattle.term_index.specs.Totals.{marks_total}
use Rattle.term_index.specs.declared.key.Key.{Key}
use Rattle.term_index.specs.declared.key.Key.TheVariants as k
use Rattle.term_index.specs.declared.key.Term.{Term}
use Rattle.term_index.proofs.Cuts.{cut_in, cut_out}
use Rattle.term_index.proofs.Lined.{exactly, kind_edge, none_at_edge}
use Rattle.term_index.proofs.Places.{cut_under, lt_is, rising_get, under, under_and_between}
use Rattle.term_index.proofs.Ranges.{high_covers, low_covers}
use Rattle.term_index.proofs.Runs.{none_begins}
use Rattle.term_index.proofs.Spans.{span_meets}

no : {A : Type 0} → false ≡ true → A
no h = absurd cc

not_false : (b : Bool) → not b ≡ false → b ≡ true
not_false true h = refl
not_false false h = absurd cc

and_left : (a b : Bool) → a && b ≡ true → a ≡ true
and_left true b h = refl
and_left false b h = h

and_right : (a b : Bool) → a && b ≡ true → b ≡ true
and_right true b h = h
and_right false b h = no h

both : (a b : Bool) → a ≡ true → b ≡ true → a && b ≡ true
both a b h g = ap (λ c. c && b) h ∙ g

pub by_mark_total : IsTotalOrder by_mark
by_mark_total = on_total mark_of marks_total

-- PLACES

not_here : (n m : ℕ) (places : List ℕ) → is_place n places ≡ false → is_place m places ≡ true → n ≡ m → ⊥
not_here n m places h g e = no (sym h ∙ (ap (λ i. is_place i places) e ∙ g))

-- at more places, fewer neighbours are alike
pub more_steps : (places more : List ℕ) (Same : Scalar → Scalar → Type 0) (es : Pairs) → AreAmong places more → StepsAt places Same es → StepsAt more Same es
more_steps places more Same es among steps i t u g h none = steps i t u g h (missing (is_place (suc i) places) refl)
  where
    missing : (b : Bool) → is_place (suc i) places ≡ b → is_place (suc i) places ≡ false
    missing true e = no (sym none ∙ among (suc i) e)
    missing false e = e

place_of_both : (n : ℕ) (xs ys : List ℕ) → is_place n (xs ++ ys) ≡ is_place n xs || is_place n ys
place_of_both n [] ys = refl
place_of_both n (x ∷ xs) ys = elim (nat_eq n x) as (λ b. b || is_place n (xs ++ ys) ≡ (b || is_place n xs) || is_place n ys) [ true ↦ refl | false ↦ place_of_both n xs ys ]

or_true : (a : Bool) → a || true ≡ true
or_true true = refl
or_true false = refl

nat_itself : (n : ℕ) → nat_eq n n ≡ true
nat_itself n = grind (arith, nat_tests)

pub is_last : (n : ℕ) (xs ys : List ℕ) → ys ≡ xs ++ n ∷ [] → is_place n ys ≡ true
is_last n xs ys is = ap (is_place n) is ∙ (place_of_both n xs (n ∷ []) ∙ (ap (λ b. is_place n xs || (b || false)) (nat_itself n) ∙ or_true (is_place n xs)))

pub among_more : (n : ℕ) (xs ys : List ℕ) → ys ≡ xs ++ n ∷ [] → AreAmong xs ys
among_more n xs ys is q h = ap (is_place q) is ∙ (place_of_both q xs (n ∷ []) ∙ ap (λ b. b || is_place q (n ∷ [])) h)

pub among_both : (xs ys zs : List ℕ) → AreAmong xs ys → AreAmong ys zs → AreAmong xs zs
among_both xs ys zs h g q p = g q (h q p)

same_nat : (n m : ℕ) → nat_eq n m ≡ true → n ≡ m
same_nat n m h = grind (arith, nat_tests)

pub within_more : (len n : ℕ) (xs ys : List ℕ) → ys ≡ xs ++ n ∷ [] → n ≤ len → AreWithin len xs → AreWithin len ys
within_more len n xs ys is le within q h = by (is_place q xs) refl (sym (ap (is_place q) is ∙ place_of_both q xs (n ∷ [])) ∙ h)
  where
    it : (b : Bool) → nat_eq q n ≡ b → b || false ≡ true → q ≤ len
    it true e g = omega (arith, same_nat q n e, le)
    it false e g = no g

    by : (b : Bool) → is_place q xs ≡ b → b || is_place q (n ∷ []) ≡ true → q ≤ len
    by true e g = within q e
    by false e g = it (nat_eq q n) refl g

pub fewer_first : (edge : Key) (es : Pairs) → length (under by_mark edge es) ≤ length es
fewer_first edge es = omega (arith, under_and_between by_mark by_mark_total edge edge es)

-- WHAT COMES FIRST

module _ {X : Type 0} (p : X → Bool) (n i : ℕ) (xs : List X) (x y : X) where
  cut_steps : IsCut p n xs → slice_get xs i ≡ Some x → slice_get xs (suc i) ≡ Some y → (suc i ≡ n → ⊥) → p x ≡ p y
  cut_steps cut g h apart =
      elim (p x) as (λ b. p x ≡ b → b ≡ p y) [
        | true ↦ λ f. elim (p y) as (λ b. p y ≡ b → true ≡ b) [ true ↦ λ l. refl | false ↦ λ l. absurd (apart (omega (arith, cut_in p n i xs x cut g f, cut_out p n (suc i) xs y cut h l))) ] refl
        | false ↦ λ f. elim (p y) as (λ b. p y ≡ b → false ≡ b) [ true ↦ λ l. absurd (omega (arith, cut_out p n i xs x cut g f, cut_in p n (suc i) xs y cut h l)) | false ↦ λ l. refl ] refl
      ] refl

-- EDGES

unless_edge : (exact : Bool) (a : Scalar) (all edge : Mark) → nat_eq all.side 1 ≡ false → nat_eq edge.side 1 ≡ false → nat_eq (unless_exact exact a all edge).side 1 ≡ false
unless_edge true (words s) all edge h g = h
unless_edge false (words s) all edge h g = g
unless_edge exact nothing all edge h g = g
unless_edge exact (truth b) all edge h g = g
unless_edge exact (number n) all edge h g = g

end_edge : (a : Scalar) → nat_eq (kind_end a).side 1 ≡ false
end_edge nothing = refl
end_edge (truth b) = refl
end_edge (number n) = refl
end_edge (words s) = refl

pub low_side : (test : Test) (exact : Bool) → nat_eq (low_edge test exact).side 1 ≡ false
low_side (Is a) exact = refl
low_side (Not a) exact = refl
low_side (Below a) exact = kind_edge a
low_side (AtMost a) exact = kind_edge a
low_side (Above a) exact = unless_edge exact a _ _ refl refl
low_side (AtLeast a) exact = unless_edge exact a _ _ refl refl
low_side (Between a b) exact = unless_edge exact a _ _ refl refl
low_side (In as') exact = refl
low_side (Starts t) exact = refl
low_side There exact = refl

pub high_side : (test : Test) (exact : Bool) → nat_eq (high_edge test exact).side 1 ≡ false
high_side (Is a) exact = refl
high_side (Not a) exact = refl
high_side (Below a) exact = unless_edge exact a _ _ refl refl
high_side (AtMost a) exact = unless_edge exact a _ _ refl refl
high_side (Above a) exact = end_edge a
high_side (AtLeast a) exact = end_edge a
high_side (Between a b) exact = unless_edge exact b _ _ refl refl
high_side (In as') exact = refl
high_side (Starts t) exact = refl
high_side There exact = refl

-- A SPAN

module _ (test : Test) (exact : Bool) (low high : Key) (from : mark_of low ≡ low_edge test exact) (to : mark_of high ≡ high_edge test exact) (span : is_span test exact ≡ true) where
  at_edge : (t : Term) → is_lt (by_mark (k.At t) high) ≡ is_le (by_mark (k.At t) high)
  at_edge t =
      lt_is by_mark by_mark_total (k.At t) high
      ∙ sym (none_at_edge high ((k.At t, tt) ∷ []) (ap (λ (m : Mark). nat_eq m.side 1) to ∙ high_side test exact) (tt, tt)).0

  from_low : (t : Term) → not (is_lt (by_mark (k.At t) low)) ≡ is_le (mark_cmp (low_edge test exact) (at_id (scalar_view t.value) t.id))
  from_low t = ap not (lt_is by_mark by_mark_total (k.At t) low) ∙ (twice (is_le (by_mark low (k.At t))) ∙ ap (λ m. is_le (mark_cmp m (at_id (scalar_view t.value) t.id))) from)
    where
      twice : (b : Bool) → not (not b) ≡ b
      twice true = refl
      twice false = refl

  to_high : (t : Term) → is_lt (by_mark (k.At t) high) ≡ is_le (mark_cmp (at_id (scalar_view t.value) t.id) (high_edge test exact))
  to_high t = at_edge t ∙ ap (λ m. is_le (mark_cmp (at_id (scalar_view t.value) t.id) m)) to

  is_inside : (t : Term) → holds test exact (scalar_view t.value) ≡ not (is_lt (by_mark (k.At t) low)) && is_lt (by_mark (k.At t) high)
  is_inside t =
      exactly (holds test exact (scalar_view t.value)) _
      (λ h. both _ _ (from_low t ∙ low_covers t.id test exact (scalar_view t.value) h) (to_high t ∙ high_covers t.id test exact (scalar_view t.value) h))
      (λ h. span_meets t.id test exact (scalar_view t.value) span (sym (from_low t) ∙ and_left _ _ h) (sym (to_high t) ∙ and_right (not (is_lt (by_mark (k.At t) low))) _ h))

  pub span_steps : (es : Pairs) (places : List ℕ) → IsRising by_mark es → is_place (length (under by_mark low es)) places ≡ true → is_place (length (under by_mark high es)) places ≡ true
      → StepsAt places (HaveOneAnswer (holds test exact)) es
  span_steps es places s l h i t u gt gu none =
      is_inside t
      ∙ (ap (λ b. not b && is_lt (by_mark (k.At t) high)) (cut_steps (λ (e : Key × Unit {0}). is_lt (by_mark e.0 low)) _ i es (k.At t, tt) (k.At u, tt) (cut_under by_mark by_mark_total low es s) gt gu (not_here (suc i) _ places none l))
      ∙ (ap (λ b. not (is_lt (by_mark (k.At u) low)) && b) (cut_steps (λ (e : Key × Unit {0}). is_lt (by_mark e.0 high)) _ i es (k.At t, tt) (k.At u, tt) (cut_under by_mark by_mark_total high es s) gt gu (not_here (suc i) _ places none h))
      ∙ sym (is_inside u)))

-- the terms rise
pub rises : (es : Pairs) → IsRising by_mark es → (i j : ℕ) (t u : Term) → slice_get es i ≡ Some (k.At t, tt) → slice_get es j ≡ Some (k.At u, tt) → i ≤ j → is_le (by_mark (k.At t) (k.At u)) ≡ true
rises es s i j t u g h l =
    ⊎_elim (λ lt. ap is_le (rising_get by_mark by_mark_total es i j (k.At t, tt) (k.At u, tt) s lt g h))
    (λ ge. let same : i ≡ j = omega (arith, l, ge) in here (ap (option_map (λ (e : Key × Unit {0}). e.0)) (sym g ∙ (ap (slice_get es) same ∙ h)))) (cases_lt i j)
  where
    here : Some (k.At t) ≡ Some (k.At u) → is_le (by_mark (k.At t) (k.At u)) ≡ true
    here e = let is : k.At t ≡ k.At u = cc in ap (λ key. is_le (by_mark (k.At t) key)) (sym is) ∙ ap is_le (tied_itself by_mark_total (k.At t))

-- those before an edge are below it
pub below_edge : (edge : Key) (es : Pairs) → IsRising by_mark es → (i : ℕ) (t : Term) → slice_get es i ≡ Some (k.At t, tt) → i < length (under by_mark edge es) → is_lt (by_mark (k.At t) edge) ≡ true
below_edge edge es s i t g l =
    elim (is_lt (by_mark (k.At t) edge)) as (λ b. is_lt (by_mark (k.At t) edge) ≡ b → b ≡ true) [
      | true ↦ λ h. refl
      | false ↦ λ h. absurd (omega (arith, l, cut_out (λ (e : Key × Unit {0}). is_lt (by_mark e.0 edge)) _ i es (k.At t, tt) (cut_under by_mark by_mark_total edge es s) g h))
    ] refl

-- HOW TEXTS BEGIN

-- none begins so after a value, at or past the first that may, that does not
begins_on : (test : Test) (v w : Scalar) (x y : List ℕ) → is_prefix test ≡ true → is_le (mark_cmp (low_edge test false) (at_id v x)) ≡ true → is_le (mark_cmp (at_id v x) (at_id w y)) ≡ true → holds test false v ≡ false → holds test false w ≡ false
begins_on (Starts prefix) v w x y is h g n = none_begins prefix false v w x y h g n
begins_on (Is a) v w x y is h g n = no is
begins_on (Not a) v w x y is h g n = no is
begins_on (Below a) v w x y is h g n = no is
begins_on (AtMost a) v w x y is h g n = no is
begins_on (Above a) v w x y is h g n = no is
begins_on (AtLeast a) v w x y is h g n = no is
begins_on (Between a b) v w x y is h g n = no is
begins_on (In as') v w x y is h g n = no is
begins_on There v w x y is h g n = no is

module _ (test : Test) (low : Key) (from : mark_of low ≡ low_edge test false) (es : Pairs) (s : IsRising by_mark es) where
  abbrev first : ℕ
  first = length (under by_mark low es)

  abbrev is_low : Key × Unit {0} → Bool
  is_low e = is_lt (by_mark e.0 low)

  low_first : IsCut is_low first es
  low_first = cut_under by_mark by_mark_total low es s

  from_first : (i : ℕ) (t : Term) → slice_get es i ≡ Some (k.At t, tt) → first ≤ i → is_le (mark_cmp (low_edge test false) (at_id (scalar_view t.value) t.id)) ≡ true
  from_first i t g l =
      sym (ap (λ m. is_le (mark_cmp m (at_id (scalar_view t.value) t.id))) from)
      ∙ elim (is_low (k.At t, tt)) as (λ b. is_low (k.At t, tt) ≡ b → is_le (by_mark low (k.At t)) ≡ true) [
        | true ↦ λ h. absurd (omega (arith, l, cut_in is_low first i es (k.At t, tt) low_first g h))
        | false ↦ λ h. not_false (is_le (by_mark low (k.At t))) (sym (lt_is by_mark by_mark_total (k.At t) low) ∙ h)
      ] refl

  before_first : (i : ℕ) (t : Term) → slice_get es i ≡ Some (k.At t, tt) → i < first → holds test false (scalar_view t.value) ≡ false
  before_first i t g l =
      elim (holds test false (scalar_view t.value)) as (λ b. holds test false (scalar_view t.value) ≡ b → b ≡ false) [
        | true ↦ λ h.
            absurd (elim (is_low (k.At t, tt)) as (λ b. is_low (k.At t, tt) ≡ b → ⊥) [
              | true ↦ λ f.
                  let two : true ≡ false =
                  sym f ∙ (lt_is by_mark by_mark_total (k.At t) low ∙ ap not (ap (λ m. is_le (mark_cmp m (at_id (scalar_view t.value) t.id))) from ∙ low_covers t.id test false (scalar_view t.value) h)) in
                  absurd cc
              | false ↦ λ f. absurd (omega (arith, l, cut_out is_low first i es (k.At t, tt) low_first g f))
            ] refl)
        | false ↦ λ h. refl
      ] refl

  pub begins_later : (i j : ℕ) (t u : Term) → is_prefix test ≡ true → slice_get es i ≡ Some (k.At t, tt) → slice_get es j ≡ Some (k.At u, tt) → first ≤ i → i ≤ j → holds test false (scalar_view t.value) ≡ false → holds test false (scalar_view u.value) ≡ false
  begins_later i j t u is g h l le n = begins_on test (scalar_view t.value) (scalar_view u.value) t.id u.id is (from_first i t g l) (rises es s i j t u g h le) n

  pub run_steps : (end : ℕ) (places : List ℕ) → AreFromTo (holds test false) first end es → is_place first places ≡ true → is_place end places ≡ true → StepsAt places (HaveOneAnswer (holds test false)) es
  run_steps end places run l h i t u gt gu none =
      ⊎_elim (λ lt. before_first i t gt (omega (arith, lt)) ∙ sym (before_first (suc i) u gu lt))
      (λ ge. let from : first ≤ i = apart ge in
      elim (holds test false (scalar_view t.value)) as (λ b. holds test false (scalar_view t.value) ≡ b → b ≡ holds test false (scalar_view u.value)) [
        | true ↦ λ f. elim (holds test false (scalar_view u.value)) as (λ b. holds test false (scalar_view u.value) ≡ b → true ≡ b) [
          | true ↦ λ g. refl
          | false ↦ λ g. absurd (not_here (suc i) end places none h (omega (arith, (run i t gt from).0 f, (run (suc i) u gu ge).1 g)))
        ] refl
        | false ↦ λ f. elim (holds test false (scalar_view u.value)) as (λ b. holds test false (scalar_view u.value) ≡ b → false ≡ b) [
          | true ↦ λ g. absurd (omega (arith, (run i t gt from).1 f, (run (suc i) u gu ge).0 g))
          | false ↦ λ g. refl
        ] refl
      ] refl) (cases_lt (suc i) first)
    where
      apart : first ≤ suc i → first ≤ i
      apart ge = ⊎_elim (λ lt. let is : suc i ≡ first = omega (arith, lt, ge) in absurd (not_here (suc i) first places none l is)) (λ le. le) (cases_lt i first)

-- A TERM AT A PLACE

pub term_at : (i : ℕ) (es : Pairs) → AreTerms es → i < length es → (t : Term) × (slice_get es i ≡ Some (k.At t, tt))
term_at i [] a l = absurd (omega (arith, l))
term_at zero ((k.At t, unit) ∷ es) a l = (t, refl)
term_at (suc i) ((k.At t, unit) ∷ es) a l = term_at i es a.1 (omega (arith, l))
term_at i ((k.Before v, unit) ∷ es) a l = absurd a.0
term_at i ((k.After v, unit) ∷ es) a l = absurd a.0
term_at i ((k.End, unit) ∷ es) a l = absurd a.0

pub get_within : {X : Type 0} (i : ℕ) (xs : List X) (x : X) → slice_get xs i ≡ Some x → i < length xs
get_within i [] x g = absurd cc
get_within zero (y ∷ ys) x g = omega arith
get_within (suc i) (y ∷ ys) x g = omega (arith, get_within i ys x g)

pub one_value : {X : Type 0} (f : X → Scalar) (o : Option X) (v : X) (a : Scalar) → option_map f o ≡ Some a → o ≡ Some v → f v ≡ a
one_value f o v a h is = let same : Some (f v) ≡ Some a = ap (option_map f) (sym is) ∙ h in cc

pub no_value : {X A : Type 0} (f : X → Scalar) (o : Option X) (a : Scalar) → option_map f o ≡ Some a → o ≡ None → A
no_value f o a h is = let none : None ≡ Some a = sym (ap (option_map f) is) ∙ h in absurd cc

-- HALVES

module _ (test : Test) (prefix : is_prefix test ≡ true) (low : Key) (from : mark_of low ≡ low_edge test false) (es : Pairs) (s : IsRising by_mark es) (start : ℕ) (is : start ≡ length (under by_mark low es)) (middle : ℕ) (m : Term) (at : slice_get es middle ≡ Some (k.At m, tt)) (le : start ≤ middle) where
  -- all up to a term that begins so do
  pub met_up_to : holds test false (scalar_view m.value) ≡ true → (i : ℕ) (t : Term) → slice_get es i ≡ Some (k.At t, tt) → start ≤ i → i ≤ middle → holds test false (scalar_view t.value) ≡ true
  met_up_to h i t g f l =
      elim (holds test false (scalar_view t.value)) as (λ b. holds test false (scalar_view t.value) ≡ b → b ≡ true) [
        | true ↦ λ e. refl
        | false ↦ λ e. no (sym (begins_later test low from es s i middle t m prefix g at (omega (arith, f, is)) l e) ∙ h)
      ] refl

  -- none from a term on that does not
  pub unmet_from : holds test false (scalar_view m.value) ≡ false → (i : ℕ) (t : Term) → slice_get es i ≡ Some (k.At t, tt) → middle ≤ i → holds test false (scalar_view t.value) ≡ false
  unmet_from h i t g l = begins_later test low from es s middle i m t prefix at g (omega (arith, le, is)) l h
