-- How many terms meet a condition, run by run.
use Rattle.std.proofs.Common.{◌≡◌, ℕ, zero, suc, ◌+◌, ◌-◌, ◌<◌, ◌≤◌, nat_eq, List, [], ◌∷◌, length, get_or, drop, map, take, Bool, true, false, cond, ◌||◌, ⊎_elim, Some, option_map, slice_get, refl, sym, ap, subst, ◌∙◌, arith}
use Rattle.std.proofs.lemmas.Bool.{cases_lt}
use Rattle.std.proofs.lemmas.Bool.Decides.{nat_tests}
use Rattle.std.specs.Option.{option_map_or}
use Rattle.std.specs.List.Sorted.{IsPermutation}
use Rattle.std.proofs.lemmas.List.Sorted.{list_any-IsPermutation}
use Rattle.std.proofs.lemmas.List.{drop_more, drop_all, take_all}
use Rattle.spec_data.specs.Scalars.{Scalar, Test, In, Is, holds}
use Rattle.raven_value.specs.ScalarView.{scalar_view}
use Rattle.raven_value.specs.declared.scalar.Scalar.{Scalar as Value}
use Rattle.term_index.specs.Decided.{AreAlike}
use Rattle.term_index.specs.Held.{AreTerms, Pairs, chosen, chosen_onto}
use Rattle.term_index.specs.Steps.{AllAnswer, HaveOneAnswer, IsOneRun, StepsAt, is_place}
use Rattle.term_index.specs.declared.key.Key.{Key}
use Rattle.term_index.specs.declared.key.Key.TheVariants as k
use Rattle.term_index.specs.declared.key.Term.{Term}
use Rattle.term_index.proofs.Changing.{term_at}

-- SEVERAL VALUES

-- where one value changes no answer, and the rest does not, they do not together
pub in_steps : (exact : Bool) (values : List Value) (i : ℕ) (a : Value) (places : List ℕ) (es : Pairs) → i < length values → get_or values i a ≡ a → StepsAt places (HaveOneAnswer (holds (Is (scalar_view a)) exact)) es
    → StepsAt places (HaveOneAnswer (holds (In (map scalar_view (drop (i + 1) values))) exact)) es → StepsAt places (HaveOneAnswer (holds (In (map scalar_view (drop i values))) exact)) es
in_steps exact values i a places es lt at one rest j t u g h none =
    split (scalar_view t.value)
    ∙ (ap (λ b. b || holds (In (map scalar_view (drop (i + 1) values))) exact (scalar_view t.value)) (one j t u g h none)
    ∙ (ap (λ b. holds (Is (scalar_view a)) exact (scalar_view u.value) || b) (rest j t u g h none)
    ∙ sym (split (scalar_view u.value))))
  where
    split : (v : Scalar) → holds (In (map scalar_view (drop i values))) exact v ≡ holds (Is (scalar_view a)) exact v || holds (In (map scalar_view (drop (i + 1) values))) exact v
    split v = ap (λ l. holds (In (map scalar_view l)) exact v) (drop_more values i a lt ∙ ap (λ z. z ∷ drop (i + 1) values) at)

pub none_steps : (exact : Bool) (values : List Value) (i : ℕ) (places : List ℕ) (es : Pairs) → length values ≤ i → StepsAt places (HaveOneAnswer (holds (In (map scalar_view (drop i values))) exact)) es
none_steps exact values i places es past j t u g h none = never (scalar_view t.value) ∙ sym (never (scalar_view u.value))
  where
    never : (v : Scalar) → holds (In (map scalar_view (drop i values))) exact v ≡ false
    never v = ap (λ l. holds (In (map scalar_view l)) exact v) (drop_all i values past)

-- SEVERAL TESTS

module _ {X : Type 0} (f : X → Test × Bool) (tests : List X) (i : ℕ) (places : List ℕ) (es : Pairs) where
  pub alike_steps : (a : X) → i < length tests → get_or tests i a ≡ a → StepsAt places (HaveOneAnswer (holds (f a).0 (f a).1)) es → StepsAt places (AreAlike (map f (drop (i + 1) tests))) es → StepsAt places (AreAlike (map f (drop i tests))) es
  alike_steps a lt at one rest j t u g h none =
      subst (λ l. AreAlike (map f l) (scalar_view t.value) (scalar_view u.value)) (sym (drop_more tests i a lt ∙ ap (λ z. z ∷ drop (i + 1) tests) at)) (one j t u g h none, rest j t u g h none)

  pub all_alike : length tests ≤ i → StepsAt places (AreAlike (map f (drop i tests))) es
  all_alike past j t u g h none = subst (λ l. AreAlike (map f l) (scalar_view t.value) (scalar_view u.value)) (sym (drop_all i tests past)) tt

-- PLACES

pub no_place : (n : ℕ) (places : List ℕ) → ((j : ℕ) → j < length places → nat_eq n (get_or places j 0) ≡ false) → is_place n places ≡ false
no_place n [] h = refl
no_place n (m ∷ places) h = ap (λ b. b || is_place n places) (h 0 (omega arith)) ∙ no_place n places (λ j l. h (suc j) (omega (arith, l)))

pub is_there : (j : ℕ) (places : List ℕ) → j < length places → is_place (get_or places j 0) places ≡ true
is_there j [] l = absurd (omega (arith, l))
is_there zero (m ∷ places) l = ap (λ b. b || is_place m places) (itself m)
  where
    itself : (n : ℕ) → nat_eq n n ≡ true
    itself n = grind (arith, nat_tests)
is_there (suc j) (m ∷ places) l = or_right (nat_eq (get_or places j 0) m) _ (is_there j places (omega (arith, l)))
  where
    or_right : (a b : Bool) → b ≡ true → a || b ≡ true
    or_right true b h = refl
    or_right false b h = h

pub differ : (n m : ℕ) → (n ≡ m → ⊥) → nat_eq n m ≡ false
differ n m h = elim (nat_eq n m) as (λ b. nat_eq n m ≡ b → b ≡ false) [ true ↦ λ e. absurd (h (same e)) | false ↦ λ e. refl ] refl
  where
    same : nat_eq n m ≡ true → n ≡ m
    same e = grind (arith, nat_tests)

-- none is past one place and before the next
pub between_places : (places : List ℕ) (next from to i : ℕ) → ((j : ℕ) → j < next → get_or places j 0 ≤ from) → ((j : ℕ) → next ≤ j → j < length places → to ≤ get_or places j 0) → from ≤ i → suc i < to → is_place (suc i) places ≡ false
between_places places next from to i below above low high =
    no_place (suc i) places (λ j l. differ (suc i) (get_or places j 0) (λ e. ⊎_elim (λ before. let b = below j before in no (omega (arith, b, low, e))) (λ past. let a = above j past l in no (omega (arith, a, high, e))) (cases_lt j next)))
  where
    no : ⊥ → ⊥
    no h = h

-- the places of a list in order, and of the list as it was
pub same_places : (n : ℕ) (xs ys : List ℕ) → IsPermutation xs ys → is_place n xs ≡ is_place n ys
same_places n xs ys same = list_any-IsPermutation (nat_eq n) xs ys same

-- A RUN

module _ (meets : Scalar → Bool) where
  drop_get : (from : ℕ) (es : Pairs) (x : Key × Unit {0}) → slice_get es from ≡ Some x → drop from es ≡ x ∷ drop (suc from) es
  drop_get from [] x g = absurd cc
  drop_get zero (e ∷ es) x g = ap (λ y. y ∷ es) (let is : e ≡ x = cc in is)
  drop_get (suc from) (e ∷ es) x g = drop_get from es x g

  -- all of them, or none
  pub run_count : (answer : Bool) (d from : ℕ) (es : Pairs) → AreTerms es → from + d ≤ length es → AllAnswer meets answer from (from + d) es → length (chosen meets (take d (drop from es))) ≡ cond answer d 0
  run_count answer zero from es a le all = zero_each answer
    where
      zero_each : (b : Bool) → ◌≡◌ {A = ℕ} 0 (cond b 0 0)
      zero_each true = refl
      zero_each false = refl
  run_count answer (suc d) from es a le all =
      let first = term_at from es a (omega (arith, le)) in
      let rest = run_count answer d (suc from) es a (omega (arith, le)) (λ i t g l m. all i t g (omega (arith, l)) (omega (arith, m))) in
      ap (λ (l : Pairs). length (chosen meets (take (suc d) l))) (drop_get from es (k.At first.0, tt) first.1)
      ∙ (ap (λ b. length (cond b (first.0.id ∷ chosen meets (take d (drop (suc from) es))) (chosen meets (take d (drop (suc from) es))))) (all from first.0 first.1 (omega arith) (omega arith))
      ∙ one_more answer first.0.id (chosen meets (take d (drop (suc from) es))) rest)
    where
      one_more : (b : Bool) (x : List ℕ) (xs : List (List ℕ)) → length xs ≡ cond b d 0 → length (cond b (x ∷ xs) xs) ≡ cond b (suc d) 0
      one_more true x xs is = ap suc is
      one_more false x xs is = is

  pub a_run : (answer : Bool) (from to : ℕ) (es : Pairs) → AreTerms es → from ≤ to → to ≤ length es → AllAnswer meets answer from to es → length (chosen meets (take (to - from) (drop from es))) ≡ cond answer (to - from) 0
  a_run answer from to es a le within all = run_count answer (to - from) from es a (omega (arith, le, within)) (λ i t g l m. all i t g l (omega (arith, m, le)))

  -- those of a run that is one answer as its first
  pub as_first : (from to : ℕ) (es : Pairs) (t : Term) → AreTerms es → slice_get es from ≡ Some (k.At t, tt) → to ≤ length es → IsOneRun meets from to es → AllAnswer meets (meets (scalar_view t.value)) from to es
  as_first from to es t a g within run i u h l m = by (i - from) i u h (let e : i ≡ from + (i - from) = omega (arith, l) in e) m
    where
      same : (u : Term) → Some (k.At u) ≡ Some (k.At t) → meets (scalar_view u.value) ≡ meets (scalar_view t.value)
      same u e = ap (λ o. option_map_or at o false) e
        where
          at : Key → Bool
          at (k.At v) = meets (scalar_view v.value)
          at edge = false

      by : (d i : ℕ) (u : Term) → slice_get es i ≡ Some (k.At u, tt) → i ≡ from + d → i < to → meets (scalar_view u.value) ≡ meets (scalar_view t.value)
      by zero i u h is m = same u (ap (option_map (λ (e : Key × Unit {0}). e.0)) (sym h ∙ (ap (slice_get es) (let e : i ≡ from = omega (arith, is) in e) ∙ g)))
      by (suc d) i u h is m =
          let last = term_at (from + d) es a (omega (arith, is, m, within)) in
          let next : i ≡ suc (from + d) = omega (arith, is) in
          sym (run (from + d) last.0 u last.1 (sym (ap (slice_get es) next) ∙ h) (omega arith) (omega (arith, next, m)))
          ∙ by d (from + d) last.0 last.1 refl (omega (arith, is, m))

  -- ALL RUNS

  none_taken : (n : ℕ) → length (chosen meets (take n [])) ≡ 0
  none_taken zero = refl
  none_taken (suc n) = refl

  none_dropped : (a d : ℕ) → length (chosen meets (take d (drop a []))) ≡ 0
  none_dropped zero d = none_taken d
  none_dropped (suc a) d = none_taken d

  onto_more : (key : Key) (xs ys : List (List ℕ)) (n : ℕ) → length xs ≡ length ys + n → length (chosen_onto meets key xs) ≡ length (chosen_onto meets key ys) + n
  onto_more (k.At t) xs ys n h = elim (meets (scalar_view t.value)) as (λ b. length (cond b (t.id ∷ xs) xs) ≡ length (cond b (t.id ∷ ys) ys) + n) [ true ↦ omega (arith, h) | false ↦ h ]
  onto_more (k.Before v) xs ys n h = h
  onto_more (k.After v) xs ys n h = h
  onto_more k.End xs ys n h = h

  -- those up to a place, and so many more
  pub count_on : (a d : ℕ) (es : Pairs) → length (chosen meets (take (a + d) es)) ≡ length (chosen meets (take a es)) + length (chosen meets (take d (drop a es)))
  count_on zero d es = ap (λ n. length (chosen meets (take n es))) (let e : 0 + d ≡ d = omega arith in e) ∙ (let e : length (chosen meets (take d es)) ≡ 0 + length (chosen meets (take d es)) = omega arith in e)
  count_on (suc a) d [] = none_taken (suc a + d) ∙ (let e : 0 ≡ 0 + length (chosen meets (take d (drop (suc a) []))) = omega (arith, none_dropped (suc a) d) in e)
  count_on (suc a) d (e ∷ es) =
      ap (λ n. length (chosen meets (take n (e ∷ es)))) (let z : suc a + d ≡ suc (a + d) = omega arith in z)
      ∙ onto_more e.0 (chosen meets (take (a + d) es)) (chosen meets (take a es)) (length (chosen meets (take d (drop a es)))) (count_on a d es)

  onto_few : (key : Key) (xs : List (List ℕ)) (n : ℕ) → length xs ≤ n → length (chosen_onto meets key xs) ≤ suc n
  onto_few (k.At t) xs n h = elim (meets (scalar_view t.value)) as (λ b. length (cond b (t.id ∷ xs) xs) ≤ suc n) [ true ↦ omega (arith, h) | false ↦ omega (arith, h) ]
  onto_few (k.Before v) xs n h = omega (arith, h)
  onto_few (k.After v) xs n h = omega (arith, h)
  onto_few k.End xs n h = omega (arith, h)

  few : (es : Pairs) → length (chosen meets es) ≤ length es
  few [] = omega arith
  few (e ∷ es) = onto_few e.0 (chosen meets es) (length es) (few es)

  -- up to a place there are no more than in all
  pub count_few : (n : ℕ) (es : Pairs) → length (chosen meets (take n es)) ≤ length es
  count_few zero es = omega arith
  count_few (suc n) [] = omega arith
  count_few (suc n) (e ∷ es) = onto_few e.0 (chosen meets (take n es)) (length es) (count_few n es)

  pub count_all : (n : ℕ) (es : Pairs) → n ≡ length es → length (chosen meets (take n es)) ≡ length (chosen meets es)
  count_all n es is = ap (λ l. length (chosen meets l)) (take_all n es (omega (arith, is)))

  pub more_runs : (from to count run : ℕ) (es : Pairs) → from ≤ to → count ≡ length (chosen meets (take from es)) → run ≡ length (chosen meets (take (to - from) (drop from es))) → count + run ≡ length (chosen meets (take to es))
  more_runs from to count run es le is more =
      (let e : count + run ≡ length (chosen meets (take (from + (to - from)) es)) = omega (arith, is, more, count_on from (to - from) es) in e)
      ∙ ap (λ n. length (chosen meets (take n es))) (let e : from + (to - from) ≡ to = omega (arith, le) in e)
