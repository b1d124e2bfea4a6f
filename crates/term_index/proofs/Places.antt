-- The pairs of a rising list from a place on.
use Rattle.std.proofs.Common.{◌≡◌, ℕ, zero, suc, ◌+◌, ◌<◌, ◌≤◌, ◌-◌, List, [], ◌∷◌, length, drop, take, Bool, true, false, cond, not, ◌&&◌, Some, None, slice_get, filter, Ordering, Less, Equal, Greater, refl, sym, ap, subst, ◌∙◌, arith}
use Rattle.std.specs.Cmp.{IsTotalOrder}
use Rattle.std.specs.Ordering.{is_le, is_lt, ordering_reverse}
use Rattle.std.proofs.lemmas.Cmp.{tied_itself}
use Rattle.paged_map.specs.Pairs.{AllAnswer, IsRising}
use Rattle.paged_map.specs.Range.{between}
use Rattle.term_index.specs.Cuts.{IsCut}
use Rattle.paged_map.proofs.Rising.{less_after, less_after_at}

none_left : {X : Type 0} (n : ℕ) (none : List X) → none ≡ [] → drop n none ≡ []
none_left zero none h = h
none_left (suc n) [] h = refl
none_left (suc n) (x ∷ xs) h = absurd cc

pub drop_past : {X : Type 0} (n : ℕ) (xs : List X) → slice_get xs n ≡ None → drop n xs ≡ []
drop_past n [] h = none_left n [] refl
drop_past zero (x ∷ xs) h = absurd cc
drop_past (suc n) (x ∷ xs) h = drop_past n xs h

module _ {K V : Type 0} (R : K → K → Ordering) where
  -- up to the high key
  abbrev pub upto : K → List (K × V) → List (K × V)
  upto high es = filter (λ e. is_le (R e.0 high)) es

  -- before the low key
  abbrev pub under : K → List (K × V) → List (K × V)
  under low es = filter (λ e. is_lt (R e.0 low)) es

  -- the key is below these, or at them
  abbrev pub AllFrom : K → List (K × V) → Type 0
  AllFrom k [] = Unit {0}
  AllFrom k (e ∷ es) = (is_le (R k e.0) ≡ true) × AllFrom k es

  -- none is at the key
  abbrev pub NoneAt : K → List (K × V) → Type 0
  NoneAt k [] = Unit {0}
  NoneAt k (e ∷ es) = (is_le (R e.0 k) ≡ not (is_le (R k e.0))) × NoneAt k es

module _ {K : Type 0} (R : K → K → Ordering) (o : IsTotalOrder R) where
  flip : (x y : K) (r : Ordering) → R x y ≡ r → R y x ≡ ordering_reverse r
  flip x y r h = o.antisymm y x ∙ ap ordering_reverse h

  pub lt_is : (x y : K) → is_lt (R x y) ≡ not (is_le (R y x))
  lt_is x y = ap is_lt (o.antisymm x y) ∙ by (R y x)
    where
      by : (r : Ordering) → is_lt (ordering_reverse r) ≡ not (is_le r)
      by Less = refl
      by Equal = refl
      by Greater = refl

module _ {K V : Type 0} (R : K → K → Ordering) (o : IsTotalOrder R) where
  -- what is from a key on is below all that come after it
  after_first : (k : K) (e : K × V) (es : List (K × V)) → is_le (R k e.0) ≡ true → AllAnswer R e.0 Less es → AllAnswer R k Less es
  after_first k e es h a =
      elim (R k e.0) as (λ r. R k e.0 ≡ r → is_le r ≡ true → AllAnswer R k Less es) [
        | Less ↦ λ q g. less_after R o k e.0 es q a
        | Equal ↦ λ q g. less_after_at R o k e.0 es q a
        | Greater ↦ λ q g. absurd cc
      ] refl h

  all_after : (low high : K) (es : List (K × V)) → AllAnswer R low Less es → between R low high es ≡ upto R high es
  all_after low high [] a = refl
  all_after low high (e ∷ es) a =
      ap (λ r. cond (is_le r && is_le (R e.0 high)) (e ∷ between R low high es) (between R low high es)) a.0
      ∙ ap (λ l. cond (is_le (R e.0 high)) (e ∷ l) l) (all_after low high es a.1)

  -- those from a first key up to one at which none is are those before it
  pub under_is : (first low : K) (es : List (K × V)) → AllFrom R first es → NoneAt R low es → between R first low es ≡ under R low es
  under_is first low [] f n = refl
  under_is first low (e ∷ es) f n =
      ap (λ b. cond (b && is_le (R e.0 low)) (e ∷ between R first low es) (between R first low es)) f.0
      ∙ (ap (λ b. cond b (e ∷ between R first low es) (between R first low es)) (n.0 ∙ sym (lt_is R o e.0 low))
      ∙ ap (λ l. cond (is_lt (R e.0 low)) (e ∷ l) l) (under_is first low es f.1 n.1))

  none_under : (low : K) (es : List (K × V)) → AllAnswer R low Less es → under R low es ≡ []
  none_under low [] a = refl
  none_under low (e ∷ es) a = ap (λ r. cond (is_lt r) (e ∷ under R low es) (under R low es)) (flip R o low e.0 Less a.0) ∙ none_under low es a.1

  none_upto : (high : K) (es : List (K × V)) → AllAnswer R high Less es → upto R high es ≡ []
  none_upto high [] a = refl
  none_upto high (e ∷ es) a = ap (λ r. cond (is_le r) (e ∷ upto R high es) (upto R high es)) (flip R o high e.0 Less a.0) ∙ none_upto high es a.1

  -- what is not up to a key is above it
  above : (e : K × V) (high : K) (es : List (K × V)) → is_le (R e.0 high) ≡ false → AllAnswer R e.0 Less es → AllAnswer R high Less es
  above e high es h a =
      elim (R e.0 high) as (λ r. R e.0 high ≡ r → is_le r ≡ false → AllAnswer R high Less es) [
        | Less ↦ λ q g. absurd cc
        | Equal ↦ λ q g. absurd cc
        | Greater ↦ λ q g. less_after R o high e.0 es (flip R o e.0 high Greater q) a
      ] refl h

  upto_drop : (high : K) (n : ℕ) (es : List (K × V)) → IsRising R es → upto R high (drop n es) ≡ drop n (upto R high es)
  upto_drop high zero es s = refl
  upto_drop high (suc n) [] s = refl
  upto_drop high (suc n) (e ∷ es) s =
      elim (is_le (R e.0 high)) as (λ b. is_le (R e.0 high) ≡ b → upto R high (drop n es) ≡ drop (suc n) (cond b (e ∷ upto R high es) (upto R high es))) [
        | true ↦ λ h. upto_drop high n es s.1
        | false ↦ λ h.
            let none = none_upto high es (above e high es h s.0) in
            upto_drop high n es s.1 ∙ (none_left n (upto R high es) none ∙ sym (none_left (suc n) (upto R high es) none))
      ] refl

  answer_get : (k : K) (r : Ordering) (es : List (K × V)) (i : ℕ) (e : K × V) → AllAnswer R k r es → slice_get es i ≡ Some e → R k e.0 ≡ r
  answer_get k r [] i e a h = absurd cc
  answer_get k r (x ∷ xs) zero e a h = ap (λ (y : K × V). R k y.0) (let is : e ≡ x = cc in is) ∙ a.0
  answer_get k r (x ∷ xs) (suc i) e a h = answer_get k r xs i e a.1 h

  -- the pairs from that at a place on
  pub between_at : (high : K) (es : List (K × V)) (i : ℕ) (e : K × V) → IsRising R es → slice_get es i ≡ Some e → between R e.0 high es ≡ upto R high (drop i es)
  between_at high [] i e s h = absurd cc
  between_at high (x ∷ xs) zero e s h =
      let is : e ≡ x = cc in
      ap (λ (y : K × V). between R y.0 high (x ∷ xs)) is
      ∙ (ap (λ r. cond (is_le r && is_le (R x.0 high)) (x ∷ between R x.0 high xs) (between R x.0 high xs)) (tied_itself o x.0)
      ∙ ap (λ l. cond (is_le (R x.0 high)) (x ∷ l) l) (all_after x.0 high xs s.0))
  between_at high (x ∷ xs) (suc i) e s h =
      ap (λ r. cond (is_le r && is_le (R x.0 high)) (x ∷ between R e.0 high xs) (between R e.0 high xs)) (flip R o x.0 e.0 Less (answer_get x.0 Less xs i e s.0 h))
      ∙ between_at high xs i e s.1 h

  -- so many are before the low key, and then come those that are between
  pub upto_place : (low high : K) (start : ℕ) (es : List (K × V)) → IsRising R es → upto R high (drop (length (under R low es) + start) es) ≡ drop start (between R low high es)
  upto_place low high start [] s = ap (upto R high) (none_left (0 + start) [] refl) ∙ sym (none_left start [] refl)
  upto_place low high start (e ∷ es) s =
      elim (is_le (R low e.0)) as (λ b. is_le (R low e.0) ≡ b → upto R high (drop (length (cond (is_lt (R e.0 low)) (e ∷ under R low es) (under R low es)) + start) (e ∷ es)) ≡ drop start (cond (b && is_le (R e.0 high)) (e ∷ between R low high es) (between R low high es))) [
        | true ↦ λ h.
            let rest = after_first low e es h s.0 in
            ap (λ b. upto R high (drop (length (cond b (e ∷ under R low es) (under R low es)) + start) (e ∷ es))) (lt_is R o e.0 low ∙ ap not h)
            ∙ (ap (λ (l : List (K × V)). upto R high (drop (length l + start) (e ∷ es))) (none_under low es rest)
            ∙ (ap (λ m. upto R high (drop m (e ∷ es))) (let z : 0 + start ≡ start = omega arith in z)
            ∙ (upto_drop high start (e ∷ es) s
            ∙ ap (λ l. drop start (cond (is_le (R e.0 high)) (e ∷ l) l)) (sym (all_after low high es rest)))))
        | false ↦ λ h.
            ap (λ b. upto R high (drop (length (cond b (e ∷ under R low es) (under R low es)) + start) (e ∷ es))) (lt_is R o e.0 low ∙ ap not h)
            ∙ (ap (λ m. upto R high (drop m (e ∷ es))) (let z : suc (length (under R low es)) + start ≡ suc (length (under R low es) + start) = omega arith in z)
            ∙ upto_place low high start es s.1)
      ] refl

  -- the page of the pairs between two keys: from the pair at that place on
  pub page_at : (low high : K) (start place : ℕ) (e : K × V) (es : List (K × V)) → IsRising R es → place ≡ length (under R low es) + start → slice_get es place ≡ Some e → between R e.0 high es ≡ drop start (between R low high es)
  page_at low high start place e es s is h = between_at high es place e s h ∙ (ap (λ m. upto R high (drop m es)) is ∙ upto_place low high start es s)

  -- or none are left there
  pub page_past : (low high : K) (start place : ℕ) (es : List (K × V)) → IsRising R es → place ≡ length (under R low es) + start → drop place es ≡ [] → [] ≡ drop start (between R low high es)
  page_past low high start place es s is h = sym (ap (upto R high) h) ∙ (ap (λ m. upto R high (drop m es)) is ∙ upto_place low high start es s)

  upto_get : (high : K) (i : ℕ) (es : List (K × V)) → IsRising R es → i < length (upto R high es) → slice_get es i ≡ slice_get (upto R high es) i
  upto_get high i [] s l = refl
  upto_get high zero (e ∷ es) s l =
      elim (is_le (R e.0 high)) as (λ b. is_le (R e.0 high) ≡ b → 0 < length (cond b (e ∷ upto R high es) (upto R high es)) → Some e ≡ slice_get (cond b (e ∷ upto R high es) (upto R high es)) 0) [
        | true ↦ λ h l. refl
        | false ↦ λ h l. absurd (omega (arith, l, ap length (none_upto high es (above e high es h s.0))))
      ] refl l
  upto_get high (suc i) (e ∷ es) s l =
      elim (is_le (R e.0 high)) as (λ b. is_le (R e.0 high) ≡ b → suc i < length (cond b (e ∷ upto R high es) (upto R high es)) → slice_get es i ≡ slice_get (cond b (e ∷ upto R high es) (upto R high es)) (suc i)) [
        | true ↦ λ h l. upto_get high i es s.1 (omega (arith, l))
        | false ↦ λ h l. absurd (omega (arith, l, ap length (none_upto high es (above e high es h s.0))))
      ] refl l

  -- the pair at a place of those between two keys
  pub nth_between : (low high : K) (i : ℕ) (es : List (K × V)) → IsRising R es → i < length (between R low high es) → slice_get es (length (under R low es) + i) ≡ slice_get (between R low high es) i
  nth_between low high i [] s l = refl
  nth_between low high i (e ∷ es) s l =
      elim (is_le (R low e.0)) as (λ b. is_le (R low e.0) ≡ b → i < length (cond (b && is_le (R e.0 high)) (e ∷ between R low high es) (between R low high es))
      → slice_get (e ∷ es) (length (cond (is_lt (R e.0 low)) (e ∷ under R low es) (under R low es)) + i) ≡ slice_get (cond (b && is_le (R e.0 high)) (e ∷ between R low high es) (between R low high es)) i) [
        | true ↦ λ h l.
            let rest = after_first low e es h s.0 in
            let same = ap (λ m. cond (is_le (R e.0 high)) (e ∷ m) m) (all_after low high es rest) in
            ap (λ b. slice_get (e ∷ es) (length (cond b (e ∷ under R low es) (under R low es)) + i)) (lt_is R o e.0 low ∙ ap not h)
            ∙ (ap (λ (l : List (K × V)). slice_get (e ∷ es) (length l + i)) (none_under low es rest)
            ∙ (ap (λ m. slice_get (e ∷ es) m) (let z : 0 + i ≡ i = omega arith in z)
            ∙ (upto_get high i (e ∷ es) s (subst (λ (m : List (K × V)). i < length m) same l)
            ∙ ap (λ m. slice_get m i) (sym same))))
        | false ↦ λ h l.
            ap (λ b. slice_get (e ∷ es) (length (cond b (e ∷ under R low es) (under R low es)) + i)) (lt_is R o e.0 low ∙ ap not h)
            ∙ (ap (λ m. slice_get (e ∷ es) m) (let z : suc (length (under R low es)) + i ≡ suc (length (under R low es) + i) = omega arith in z)
            ∙ nth_between low high i es s.1 l)
      ] refl l

  none_below : (low high m : K) (es : List (K × V)) → AllAnswer R m Less es → IsCut (λ (e : K × V). is_le (R e.0 m)) 0 (between R low high es)
  none_below low high m [] a = tt
  none_below low high m (e ∷ es) a =
      elim (is_le (R low e.0) && is_le (R e.0 high)) as (λ b. IsCut (λ (e : K × V). is_le (R e.0 m)) 0 (cond b (e ∷ between R low high es) (between R low high es))) [
        | true ↦ (ap is_le (flip R o m e.0 Less a.0), none_below low high m es a.1)
        | false ↦ none_below low high m es a.1
      ]

  -- as many as are counted up to a key are up to it
  pub cut_between : (low high m : K) (es : List (K × V)) → IsRising R es → IsCut (λ (e : K × V). is_le (R e.0 m)) (length (between R low m es)) (between R low high es)
  cut_between low high m [] s = tt
  cut_between low high m (e ∷ es) s =
      elim (is_le (R low e.0)) as (λ b. is_le (R low e.0) ≡ b → IsCut (λ (x : K × V). is_le (R x.0 m)) (length (cond (b && is_le (R e.0 m)) (e ∷ between R low m es) (between R low m es))) (cond (b && is_le (R e.0 high)) (e ∷ between R low high es) (between R low high es))) [
        | true ↦ λ h.
            let rest = after_first low e es h s.0 in
            elim (is_le (R e.0 m)) as (λ c. is_le (R e.0 m) ≡ c → IsCut (λ (x : K × V). is_le (R x.0 m)) (length (cond c (e ∷ between R low m es) (between R low m es))) (cond (is_le (R e.0 high)) (e ∷ between R low high es) (between R low high es))) [
              | true ↦ λ g.
                  elim (is_le (R e.0 high)) as (λ d. is_le (R e.0 high) ≡ d → IsCut (λ (x : K × V). is_le (R x.0 m)) (suc (length (between R low m es))) (cond d (e ∷ between R low high es) (between R low high es))) [
                    | true ↦ λ f. (g, cut_between low high m es s.1)
                    | false ↦ λ f. subst (λ (l : List (K × V)). IsCut (λ (x : K × V). is_le (R x.0 m)) (suc (length (between R low m es))) l) (sym (all_after low high es rest ∙ none_upto high es (above e high es f s.0))) tt
                  ] refl
              | false ↦ λ g.
                  let over = above e m es g s.0 in
                  subst (λ (l : List (K × V)). IsCut (λ (x : K × V). is_le (R x.0 m)) (length l) (cond (is_le (R e.0 high)) (e ∷ between R low high es) (between R low high es))) (sym (all_after low m es rest ∙ none_upto m es over))
                  (elim (is_le (R e.0 high)) as (λ d. IsCut (λ (x : K × V). is_le (R x.0 m)) 0 (cond d (e ∷ between R low high es) (between R low high es))) [ true ↦ (g, none_below low high m es over) | false ↦ none_below low high m es over ])
            ] refl
        | false ↦ λ h. cut_between low high m es s.1
      ] refl

  none_less : (m : K) (es : List (K × V)) → AllAnswer R m Less es → IsCut (λ (e : K × V). is_lt (R e.0 m)) 0 es
  none_less m [] a = tt
  none_less m (e ∷ es) a = (ap is_lt (flip R o m e.0 Less a.0), none_less m es a.1)

  -- those before a key come first
  pub cut_under : (m : K) (es : List (K × V)) → IsRising R es → IsCut (λ (e : K × V). is_lt (R e.0 m)) (length (under R m es)) es
  cut_under m [] s = tt
  cut_under m (e ∷ es) s =
      elim (is_lt (R e.0 m)) as (λ b. is_lt (R e.0 m) ≡ b → IsCut (λ (x : K × V). is_lt (R x.0 m)) (length (cond b (e ∷ under R m es) (under R m es))) (e ∷ es)) [
        | true ↦ λ h. (h, cut_under m es s.1)
        | false ↦ λ h.
            let rest = after_first m e es (not_less (is_le (R m e.0)) (sym (lt_is R o e.0 m) ∙ h)) s.0 in
            subst (λ (l : List (K × V)). IsCut (λ (x : K × V). is_lt (R x.0 m)) (length l) (e ∷ es)) (sym (none_under m es rest)) (h, none_less m es rest)
      ] refl
    where
      not_less : (b : Bool) → not b ≡ false → b ≡ true
      not_less true h = refl
      not_less false h = absurd cc

  -- of two places, the first has the lower key
  pub rising_get : (es : List (K × V)) (i j : ℕ) (x y : K × V) → IsRising R es → i < j → slice_get es i ≡ Some x → slice_get es j ≡ Some y → R x.0 y.0 ≡ Less
  rising_get [] i j x y s l g h = absurd cc
  rising_get (e ∷ es) i zero x y s l g h = absurd (omega (arith, l))
  rising_get (e ∷ es) zero (suc j) x y s l g h = ap (λ (z : K × V). R z.0 y.0) (let is : x ≡ e = cc in is) ∙ answer_get e.0 Less es j y s.0 h
  rising_get (e ∷ es) (suc i) (suc j) x y s l g h = rising_get es i j x y s.1 (omega (arith, l)) g h

  pub under_and_between : (low high : K) (es : List (K × V)) → length (under R low es) + length (between R low high es) ≤ length es
  under_and_between low high [] = omega arith
  under_and_between low high (e ∷ es) =
      let ih = under_and_between low high es in
      ap_le (is_le (R low e.0)) (is_le (R e.0 high)) (lt_is R o e.0 low) ih
    where
      ap_le : (b c : Bool) {l : Bool} → l ≡ not b → length (under R low es) + length (between R low high es) ≤ length es
          → length (cond l (e ∷ under R low es) (under R low es)) + length (cond (b && c) (e ∷ between R low high es) (between R low high es)) ≤ suc (length es)
      ap_le true true h ih = subst (λ l. length (cond l (e ∷ under R low es) (under R low es)) + suc (length (between R low high es)) ≤ suc (length es)) (sym h) (omega (arith, ih))
      ap_le true false h ih = subst (λ l. length (cond l (e ∷ under R low es) (under R low es)) + length (between R low high es) ≤ suc (length es)) (sym h) (omega (arith, ih))
      ap_le false c h ih = subst (λ l. length (cond l (e ∷ under R low es) (under R low es)) + length (between R low high es) ≤ suc (length es)) (sym h) (omega (arith, ih))

module _ {X : Type 0} where
  pub get_drop : (a i : ℕ) (xs : List X) → slice_get (drop a xs) i ≡ slice_get xs (a + i)
  get_drop zero i xs = ap (slice_get xs) (let e : i ≡ 0 + i = omega arith in e)
  get_drop (suc a) i [] = refl
  get_drop (suc a) i (x ∷ xs) = get_drop a i xs ∙ ap (slice_get (x ∷ xs)) (let e : suc (a + i) ≡ suc a + i = omega arith in e)

module _ {K V : Type 0} (R : K → K → Ordering) (o : IsTotalOrder R) where
  rising_drop : (a : ℕ) (es : List (K × V)) → IsRising R es → IsRising R (drop a es)
  rising_drop zero es s = s
  rising_drop (suc a) [] s = tt
  rising_drop (suc a) (e ∷ es) s = rising_drop a es s.1

  -- up to the key of the pair at a place
  upto_at : (es : List (K × V)) (j : ℕ) (y : K × V) → IsRising R es → slice_get es j ≡ Some y → upto R y.0 es ≡ take (suc j) es
  upto_at [] j y s g = absurd cc
  upto_at (e ∷ es) zero y s g =
      let is : e ≡ y = cc in
      sym (ap (λ (z : K × V). upto R z.0 (e ∷ es)) is)
      ∙ (ap (λ r. cond (is_le r) (e ∷ upto R e.0 es) (upto R e.0 es)) (tied_itself o e.0) ∙ ap (λ l. e ∷ l) (none_upto R o e.0 es s.0))
  upto_at (e ∷ es) (suc j) y s g = ap (λ r. cond (is_le r) (e ∷ upto R y.0 es) (upto R y.0 es)) (answer_get R o e.0 Less es j y s.0 g) ∙ ap (λ l. e ∷ l) (upto_at es j y s.1 g)

  -- from the pair at one place to that at another
  pub run_between : (es : List (K × V)) (a b : ℕ) (x y : K × V) → IsRising R es → slice_get es a ≡ Some x → slice_get es b ≡ Some y → a ≤ b → between R x.0 y.0 es ≡ take (suc b - a) (drop a es)
  run_between es a b x y s g h le =
      between_at R o y.0 es a x s g
      ∙ (upto_at (drop a es) (b - a) y (rising_drop a es s) (get_drop a (b - a) es ∙ (ap (slice_get es) (let e : a + (b - a) ≡ b = omega (arith, le) in e) ∙ h))
      ∙ ap (λ n. take n (drop a es)) (let e : suc (b - a) ≡ suc b - a = omega (arith, le) in e))

  -- as many are before the key of a pair as before the pair
  pub under_at : (es : List (K × V)) (a : ℕ) (x : K × V) → IsRising R es → slice_get es a ≡ Some x → a ≡ length (under R x.0 es)
  under_at [] a x s g = absurd cc
  under_at (e ∷ es) zero x s g =
      let is : e ≡ x = cc in
      sym (ap length (sym (ap (λ (z : K × V). under R z.0 (e ∷ es)) is)
      ∙ (ap (λ r. cond (is_lt r) (e ∷ under R e.0 es) (under R e.0 es)) (tied_itself o e.0) ∙ none_under R o e.0 es s.0)))
  under_at (e ∷ es) (suc a) x s g = ap suc (under_at es a x s.1 g) ∙ sym (ap length (ap (λ r. cond (is_lt r) (e ∷ under R x.0 es) (under R x.0 es)) (answer_get R o e.0 Less es a x s.0 g)))
