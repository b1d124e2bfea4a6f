-- Places of keys and pairs at places, by the numbers of pairs below pages.
use Rattle.std.proofs.Common.{◌≡◌, ℕ, zero, suc, ◌+◌, ◌-◌, ◌<◌, ◌≤◌, Bool, true, false, cond, ◌&&◌, Some, None, List, [], ◌∷◌, ◌++◌, length, take, drop, get_or, refl, sym, ap, subst, ◌∙◌, length-append, arith}
use Rattle.std.specs.declared.cmp.Ordering.{Ordering}
use Rattle.std.specs.declared.cmp.Ordering.TheVariants.{Less, Equal, Greater}
use Rattle.std.specs.Ordering.{is_le, ordering_reverse}
use Rattle.std.specs.Cmp.{IsTotalOrder}
use Rattle.std.specs.List.{slice_get}
use Rattle.paged_map.specs.Held.{Held}
use Rattle.paged_map.specs.Pairs.{AllAnswer, IsRising, is_after}
use Rattle.paged_map.specs.Places.{place_of}
use Rattle.paged_map.specs.Range.{suffix, between}
use Rattle.paged_map.specs.Level.{flat, IsChild}
use Rattle.paged_map.specs.Totals.{plus, total_of}
use Rattle.paged_map.proofs.Pages.{flat_at}

get-front : {X : Type 0} (xs ys : List X) (i : ℕ) → i < length xs → slice_get (xs ++ ys) i ≡ slice_get xs i
get-front [] ys i l = absurd (omega arith)
get-front (x ∷ xs) ys zero l = refl
get-front (x ∷ xs) ys (suc i) l = get-front xs ys i (omega arith)

get-behind : {X : Type 0} (xs ys : List X) (i : ℕ) → slice_get (xs ++ ys) (length xs + i) ≡ slice_get ys i
get-behind [] ys i = let e : 0 + i ≡ i = omega arith in ap (slice_get ys) e
get-behind (x ∷ xs) ys i = let e : suc (length xs) + i ≡ suc (length xs + i) = omega arith in ap (slice_get (x ∷ (xs ++ ys))) e ∙ get-behind xs ys i

-- ---- the total of ones
module _ {K V : Type 0} where
  total-some : (e : K × V) (es : List (K × V)) → total_of (λ v. 1) (λ a b. a + b) (e ∷ es) ≡ Some (suc (length es))
  total-some e [] = refl
  total-some e (f ∷ es) = ap (plus (λ a b. a + b) (Some 1)) (total-some f es) ∙ ap Some (omega arith)

  pub counted : (es : List (K × V)) (n : ℕ) → Some n ≡ total_of (λ v. 1) (λ a b. a + b) es → n ≡ length es
  counted [] n h = cc
  counted (e ∷ es) n h = let t : Some n ≡ Some (suc (length es)) = h ∙ total-some e es in cc

  pub none_counted : (es : List (K × V)) → None ≡ total_of (λ v. 1) (λ a b. a + b) es → 0 ≡ length es
  none_counted [] h = refl
  none_counted (e ∷ es) h = let t : None ≡ Some (suc (length es)) = h ∙ total-some e es in cc

  -- ---- pages side by side
  pub pages_more : (ps : List (Held K V)) (i : ℕ) (d x : Held K V) → i < length ps → x ≡ get_or ps i d → length (flat (take (i + 1) ps)) ≡ length (flat (take i ps)) + length x.pairs
  pages_more [] i d x l is = absurd (omega arith)
  pages_more (p ∷ ps) zero d x l is = rw is (let a = length-append p.pairs [] in omega (arith, a))
  pages_more (p ∷ ps) (suc i) d x l is =
      let more = pages_more ps i d x (omega arith) is in
      let a = length-append p.pairs (flat (take (i + 1) ps)) in
      let b = length-append p.pairs (flat (take i ps)) in
      let e : suc i + 1 ≡ suc (i + 1) = omega arith in
      rw e (omega (arith, more, a, b))

  pub pages_within : (ps : List (Held K V)) (i : ℕ) → length (flat (take i ps)) ≤ length (flat ps)
  pages_within [] zero = omega arith
  pages_within [] (suc i) = omega arith
  pages_within (p ∷ ps) zero = omega arith
  pages_within (p ∷ ps) (suc i) = let r = pages_within ps i in omega (arith, r, length-append p.pairs (flat (take i ps)), length-append p.pairs (flat ps))

  -- the pair at a place is in the page that has the place
  pub nth_in_page : (ps : List (Held K V)) (at left place : ℕ) (d x : Held K V) → at < length ps → x ≡ get_or ps at d → length (flat (take at ps)) + left ≡ place → place < length (flat (take (at + 1) ps)) →
      slice_get x.pairs left ≡ slice_get (flat ps) place
  nth_in_page ps at left place d x l is sum inside =
      let more = pages_more ps at d x l is in
      let here : left < length x.pairs = omega (arith, more, sum, inside) in
      let all : flat ps ≡ flat (take at ps) ++ (x.pairs ++ flat (drop (at + 1) ps)) = subst (λ y. flat ps ≡ flat (take at ps) ++ (y.pairs ++ flat (drop (at + 1) ps))) (sym is) (flat_at ps at d l) in
      sym (ap (slice_get (flat ps)) (sym sum) ∙ ap (λ xs. slice_get xs (length (flat (take at ps)) + left)) all ∙ get-behind (flat (take at ps)) (x.pairs ++ flat (drop (at + 1) ps)) left ∙ get-front x.pairs (flat (drop (at + 1) ps)) left here)

-- ---- the place of a key
module _ {K V : Type 0} (R : K → K → Ordering) (past : Bool) (k : K) where
  pub place_and_suffix : (es : List (K × V)) → place_of R past k es + length (suffix (λ e. is_after past (R k e.0)) es) ≡ length es
  place_and_suffix [] = refl
  place_and_suffix (e ∷ es) =
      elim (is_after past (R k e.0)) as (λ b. cond b 0 (suc (place_of R past k es)) + length (cond b (e ∷ es) (suffix (λ e. is_after past (R k e.0)) es)) ≡ suc (length es)) [
        | true ↦ omega arith
        | false ↦ omega (arith, place_and_suffix es)
      ]

  place-greater : (xs ys : List (K × V)) → AllAnswer R k Greater xs → place_of R past k (xs ++ ys) ≡ length xs + place_of R past k ys
  place-greater [] ys a = omega arith
  place-greater (x ∷ xs) ys a = rw a.0 (omega (arith, place-greater xs ys a.1))

  none-before : (ys : List (K × V)) → AllAnswer R k Less ys → place_of R past k ys ≡ 0
  none-before [] a = refl
  none-before (y ∷ ys) a = rw a.0 refl

  place-less : (xs ys : List (K × V)) → AllAnswer R k Less ys → place_of R past k (xs ++ ys) ≡ place_of R past k xs
  place-less [] ys a = none-before ys a
  place-less (x ∷ xs) ys a =
      elim (is_after past (R k x.0)) as (λ b. cond b 0 (suc (place_of R past k (xs ++ ys))) ≡ cond b 0 (suc (place_of R past k xs))) [
        | true ↦ refl
        | false ↦ ap suc (place-less xs ys a)
      ]

  -- in a list of pages: all pairs before the child, and those before the key in it
  pub place_in_child : (ps : List (Held K V)) (i : ℕ) (d x : Held K V) → IsChild R ps k i → x ≡ get_or ps i d → place_of R past k (flat ps) ≡ length (flat (take i ps)) + place_of R past k x.pairs
  place_in_child ps i d x at is =
      ap (place_of R past k) (flat_at ps i d at.in_range)
      ∙ place-greater (flat (take i ps)) _ at.greater
      ∙ ap (λ n. length (flat (take i ps)) + n) (place-less (get_or ps i d).pairs (flat (drop (i + 1) ps)) at.less)
      ∙ ap (λ p. length (flat (take i ps)) + place_of R past k p.pairs) (sym is)

-- ---- between two keys
module _ {K : Type 0} (R : K → K → Ordering) (o : IsTotalOrder R) where
  flip : (x y : K) (r : Ordering) → R x y ≡ r → R y x ≡ ordering_reverse r
  flip x y r h = o.antisymm y x ∙ ap ordering_reverse h

module _ {K V : Type 0} (R : K → K → Ordering) (o : IsTotalOrder R) where
  later : (k : K) (x : K × V) (xs : List (K × V)) → R k x.0 ≡ Less → AllAnswer R x.0 Less xs → AllAnswer R k Less xs
  later k x [] h a = tt
  later k x (y ∷ ys) h a = (o.trans k x.0 y.0 h a.0, later k x ys h a.1)

  later-at : (k : K) (x : K × V) (xs : List (K × V)) → R k x.0 ≡ Equal → AllAnswer R x.0 Less xs → AllAnswer R k Less xs
  later-at k x [] h a = tt
  later-at k x (y ∷ ys) h a = (o.congr k x.0 y.0 h ∙ a.0, later-at k x ys h a.1)

module _ {K V : Type 0} (R : K → K → Ordering) (o : IsTotalOrder R) (low high : K) where
  -- all of a list is above the high key
  none-between : (xs : List (K × V)) → AllAnswer R high Less xs → between R low high xs ≡ []
  none-between [] a = refl
  none-between (x ∷ xs) a =
      let above : R x.0 high ≡ Greater = flip R o high x.0 Less a.0 in
      rw above (elim (is_le (R low x.0)) as (λ b. cond (b && false) (x ∷ between R low high xs) (between R low high xs) ≡ []) [ true ↦ none-between xs a.1 | false ↦ none-between xs a.1 ])

  count-one : (x : K × V) (xs : List (K × V)) → AllAnswer R x.0 Less xs → length (between R low high xs) ≡ place_of R true high xs - place_of R false low xs →
      (l : Ordering) → R low x.0 ≡ l → (h : Ordering) → R high x.0 ≡ h → length (between R low high (x ∷ xs)) ≡ place_of R true high (x ∷ xs) - place_of R false low (x ∷ xs)
  count-one x xs s rest Greater l Less h = let n = ap length (none-between xs (later R o high x xs h s)) in rw (l, h) (omega (arith, n))
  count-one x xs s rest Greater l Equal h = rw (l, h) (omega (arith, rest))
  count-one x xs s rest Greater l Greater h = rw (l, h) (omega (arith, rest))
  count-one x xs s rest Less l Less h = let b : R x.0 high ≡ Greater = flip R o high x.0 Less h in let n = ap length (none-between xs (later R o high x xs h s)) in rw (l, h, b) (omega (arith, n))
  count-one x xs s rest Less l Equal h = let b : R x.0 high ≡ Equal = flip R o high x.0 Equal h in let n = none-before R false low xs (later R o low x xs l s) in rw (l, h, b) (omega (arith, rest, n))
  count-one x xs s rest Less l Greater h = let b : R x.0 high ≡ Less = flip R o high x.0 Greater h in let n = none-before R false low xs (later R o low x xs l s) in rw (l, h, b) (omega (arith, rest, n))
  count-one x xs s rest Equal l Less h = let b : R x.0 high ≡ Greater = flip R o high x.0 Less h in let n = ap length (none-between xs (later R o high x xs h s)) in rw (l, h, b) (omega (arith, n))
  count-one x xs s rest Equal l Equal h = let b : R x.0 high ≡ Equal = flip R o high x.0 Equal h in let n = none-before R false low xs (later-at R o low x xs l s) in rw (l, h, b) (omega (arith, rest, n))
  count-one x xs s rest Equal l Greater h = let b : R x.0 high ≡ Less = flip R o high x.0 Greater h in let n = none-before R false low xs (later-at R o low x xs l s) in rw (l, h, b) (omega (arith, rest, n))

  pub count_between : (xs : List (K × V)) → IsRising R xs → length (between R low high xs) ≡ place_of R true high xs - place_of R false low xs
  count_between [] s = refl
  count_between (x ∷ xs) s = count-one x xs s.0 (count_between xs s.1) (R low x.0) refl (R high x.0) refl
