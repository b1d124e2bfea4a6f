-- A stable sort gives the list that the definition gives.
use Rattle.std.proofs.Common.{◌≡◌, ℕ, suc, ◌<◌, ◌≤◌, List, [], ◌∷◌, length, get_or, Bool, true, false, cond, not, ◌&&◌, filter, map, Ordering, Less, Equal, Greater, refl, sym, ap, ◌∙◌, arith}
use Rattle.std.specs.List.Sorted.{IsSortedBy, IsStableBy, ties}
use Rattle.std.specs.Ordering.{is_lt, is_gt, ordering_reverse}
use Rattle.std.specs.Cmp.{IsTotalOrder}
use Rattle.std.proofs.lemmas.Cmp.{tied_itself}
use Rattle.std.proofs.lemmas.List.Sorted.{sorted_far, ranks_by}
use Rattle.spec_query.specs.Sorting.{sorted, inserted}

module _ {X : Type 0} (R : X → X → Ordering) (o : IsTotalOrder R) where
  abbrev lt : X → X → Bool
  lt x y = is_lt (R x y)

  -- none of these is below it
  NoneBelow : X → List X → Type 0
  NoneBelow k [] = Unit {0}
  NoneBelow k (x ∷ xs) = (lt x k ≡ false) × NoneBelow k xs

  IsUp : List X → Type 0
  IsUp [] = Unit {0}
  IsUp (x ∷ xs) = NoneBelow x xs × IsUp xs

  none_below_from : (k : X) (xs : List X) → ((j : ℕ) (d : X) → j < length xs → lt (get_or xs j d) k ≡ false) → NoneBelow k xs
  unfolding NoneBelow
  none_below_from k [] h = tt
  none_below_from k (x ∷ xs) h = (h 0 k (omega arith), none_below_from k xs (λ j d l. h (suc j) d (omega arith)))

  up_from : (xs : List X) → ((i j : ℕ) (d : X) → i ≤ j → j < length xs → lt (get_or xs j d) (get_or xs i d) ≡ false) → IsUp xs
  unfolding IsUp
  up_from [] h = tt
  up_from (x ∷ xs) h = (none_below_from x xs (λ j d l. h 0 (suc j) d (omega arith) (omega arith)), up_from xs (λ i j d le l. h (suc i) (suc j) d (omega arith) (omega arith)))

  up_sorted : (xs : List X) → IsSortedBy lt xs → IsUp xs
  up_sorted xs s = up_from xs (sorted_far lt (ranks_by o (λ (x : X). x)) xs s)

  -- what is not below one that is not below a third is not below that
  upto : (x y z : X) → lt y x ≡ false → lt z y ≡ false → lt z x ≡ false
  upto x y z h g =
      elim (R z x) as (λ r. R z x ≡ r → is_lt r ≡ false) [
        | Less ↦ λ e. absurd (mixed e (R z y) refl)
        | Equal ↦ λ e. refl
        | Greater ↦ λ e. refl
      ] refl
    where
      back : (r : Ordering) → ordering_reverse r ≡ Less → r ≡ Greater
      back Less e = absurd cc
      back Equal e = absurd cc
      back Greater e = refl

      mixed : R z x ≡ Less → (r : Ordering) → R z y ≡ r → ⊥
      mixed e Less f = let two : true ≡ false = sym (ap is_lt f) ∙ g in absurd cc
      mixed e Equal f = let two : true ≡ false = sym (ap is_lt (sym (o.congr z y x f) ∙ e)) ∙ h in absurd cc
      mixed e Greater f =
          let less : R y z ≡ Less = o.antisymm y z ∙ ap ordering_reverse f in
          let two : true ≡ false = sym (ap is_lt (o.trans y z x less e)) ∙ h in absurd cc

  -- THE DEFINITION IS SORTED

  not_lt : (x y : X) → is_gt (R x y) ≡ true → lt x y ≡ false
  not_lt x y = elim (R x y) as (λ r. is_gt r ≡ true → is_lt r ≡ false) [ Less ↦ λ h. absurd cc | Equal ↦ λ h. refl | Greater ↦ λ h. refl ]

  not_gt : (x y : X) → is_gt (R x y) ≡ false → lt y x ≡ false
  not_gt x y h = ap is_lt (o.antisymm y x) ∙ by (R x y) h
    where
      by : (r : Ordering) → is_gt r ≡ false → is_lt (ordering_reverse r) ≡ false
      by Less e = refl
      by Equal e = refl
      by Greater e = absurd cc

  below_in : (k x : X) (ys : List X) → lt x k ≡ false → NoneBelow k ys → NoneBelow k (inserted R x ys)
  unfolding NoneBelow
  below_in k x [] h n = (h, tt)
  below_in k x (y ∷ ys) h n = elim (is_gt (R x y)) as (λ b. NoneBelow k (cond b (y ∷ inserted R x ys) (x ∷ y ∷ ys))) [ true ↦ (n.0, below_in k x ys h n.1) | false ↦ (h, n) ]

  below_all : (x y : X) (ys : List X) → lt y x ≡ false → NoneBelow y ys → NoneBelow x ys
  unfolding NoneBelow
  below_all x y [] h n = tt
  below_all x y (z ∷ ys) h n = (upto x y z h n.0, below_all x y ys h n.1)

  up_in : (x : X) (ys : List X) → IsUp ys → IsUp (inserted R x ys)
  unfolding IsUp NoneBelow
  up_in x [] u = (tt, tt)
  up_in x (y ∷ ys) u =
      elim (is_gt (R x y)) as (λ b. is_gt (R x y) ≡ b → IsUp (cond b (y ∷ inserted R x ys) (x ∷ y ∷ ys))) [
        | true ↦ λ h. (below_in y x ys (not_lt x y h) u.0, up_in x ys u.1)
        | false ↦ λ h. ((not_gt x y h, below_all x y ys (not_gt x y h) u.0), u)
      ] refl

  up-sorted : (xs : List X) → IsUp (sorted R xs)
  unfolding IsUp
  up-sorted [] = tt
  up-sorted (x ∷ xs) = up_in x (sorted R xs) (up-sorted xs)

  -- THE DEFINITION IS STABLE

  tied : (x y : X) → ties lt x y ≡ true → R x y ≡ Equal
  tied x y h = by (R x y) refl h
    where
      by : (r : Ordering) → R x y ≡ r → not (lt x y) && not (lt y x) ≡ true → R x y ≡ Equal
      by Less e h = let two : true ≡ false = sym (sym (ap (λ r. not (is_lt r) && not (lt y x)) e) ∙ h) in absurd cc
      by Equal e h = e
      by Greater e h = let two : true ≡ false = sym (no_left (not (lt x y)) (sym (ap (λ b. not (lt x y) && not b) (ap is_lt (o.antisymm y x ∙ ap ordering_reverse e))) ∙ h)) in absurd cc
        where
          no_left : (b : Bool) → b && false ≡ true → false ≡ true
          no_left true g = g
          no_left false g = g

  -- one that ties with neither of two of which one is past the other ties with both
  one_ties : (x a y : X) → is_gt (R a y) ≡ true → ties lt x y ≡ true → ties lt x a ≡ false
  one_ties x a y h t =
      elim (ties lt x a) as (λ b. ties lt x a ≡ b → b ≡ false) [
        | true ↦ λ s. let two : false ≡ true = sym (ap is_gt (sym (o.congr x a y (tied x a s)) ∙ tied x y t)) ∙ h in absurd cc
        | false ↦ λ s. refl
      ] refl

  same_in : (x a : X) (ys : List X) → filter (ties lt x) (inserted R a ys) ≡ filter (ties lt x) (a ∷ ys)
  same_in x a [] = refl
  same_in x a (y ∷ ys) =
      elim (is_gt (R a y)) as (λ b. is_gt (R a y) ≡ b → filter (ties lt x) (cond b (y ∷ inserted R a ys) (a ∷ y ∷ ys)) ≡ filter (ties lt x) (a ∷ y ∷ ys)) [
        | true ↦ λ h. moved h (same_in x a ys) (ties lt x y) refl
        | false ↦ λ h. refl
      ] refl
    where
      moved : is_gt (R a y) ≡ true → filter (ties lt x) (inserted R a ys) ≡ filter (ties lt x) (a ∷ ys) → (b : Bool) → ties lt x y ≡ b
          → cond b (y ∷ filter (ties lt x) (inserted R a ys)) (filter (ties lt x) (inserted R a ys)) ≡ cond (ties lt x a) (a ∷ cond b (y ∷ filter (ties lt x) ys) (filter (ties lt x) ys)) (cond b (y ∷ filter (ties lt x) ys) (filter (ties lt x) ys))
      moved h ih true t =
          let apart : ties lt x a ≡ false = one_ties x a y h t in
          ap (λ l. y ∷ l) (ih ∙ ap (λ b. cond b (a ∷ filter (ties lt x) ys) (filter (ties lt x) ys)) apart)
          ∙ sym (ap (λ b. cond b (a ∷ y ∷ filter (ties lt x) ys) (y ∷ filter (ties lt x) ys)) apart)
      moved h ih false t = ih

  same-sorted : (x : X) (xs : List X) → filter (ties lt x) (sorted R xs) ≡ filter (ties lt x) xs
  same-sorted x [] = refl
  same-sorted x (a ∷ xs) = same_in x a (sorted R xs) ∙ ap (λ l. cond (ties lt x a) (a ∷ l) l) (same-sorted x xs)

  -- ONE LIST ALONE IS SORTED AND HAS THESE IN THESE ORDERS

  ties_itself : (x : X) → ties lt x x ≡ true
  ties_itself x = ap (λ r. not (is_lt r) && not (is_lt r)) (tied_itself o x)

  ties_of : (x y : X) → R x y ≡ Equal → ties lt x y ≡ true
  ties_of x y e = ap (λ r. not (is_lt r) && not (lt y x)) e ∙ ap (λ r. not (is_lt r)) (o.antisymm y x ∙ ap ordering_reverse e)

  -- some of them ties, so the first is not above
  first_below : (y z : X) (zs : List X) → NoneBelow z zs → (w : X) (ws : List X) → filter (ties lt y) (z ∷ zs) ≡ w ∷ ws → lt y z ≡ false
  unfolding NoneBelow
  first_below y z zs n w ws e = by (ties lt y z) refl
    where
      not_less : (u : X) → ties lt y u ≡ true → lt u z ≡ false → lt y z ≡ false
      not_less u t h = ap is_lt (o.congr y u z (tied y u t)) ∙ h

      among : (us : List X) → NoneBelow z us → filter (ties lt y) us ≡ w ∷ ws → lt y z ≡ false
      among [] m f = absurd cc
      among (u ∷ us) m f =
          elim (ties lt y u) as (λ b. ties lt y u ≡ b → cond b (u ∷ filter (ties lt y) us) (filter (ties lt y) us) ≡ w ∷ ws → lt y z ≡ false) [
            | true ↦ λ t g. not_less u t m.0
            | false ↦ λ t g. among us m.1 g
          ] refl f

      by : (b : Bool) → ties lt y z ≡ b → lt y z ≡ false
      by true t = not_less z t (ap is_lt (tied_itself o z))
      by false t = among zs n (sym (ap (λ b. cond b (z ∷ filter (ties lt y) zs) (filter (ties lt y) zs)) t) ∙ e)

  neither : (y z : X) → lt y z ≡ false → lt z y ≡ false → R y z ≡ Equal
  neither y z h g = by (R y z) refl
    where
      by : (r : Ordering) → R y z ≡ r → R y z ≡ Equal
      by Less e = let two : true ≡ false = sym (ap is_lt e) ∙ h in absurd cc
      by Equal e = e
      by Greater e = let two : true ≡ false = sym (ap is_lt (o.antisymm z y ∙ ap ordering_reverse e)) ∙ g in absurd cc

  head_same : (a b : X) (as' bs : List X) → a ∷ as' ≡ b ∷ bs → a ≡ b
  head_same a b as' bs e = cc

  tail_same : (a b : X) (as' bs : List X) → a ∷ as' ≡ b ∷ bs → as' ≡ bs
  tail_same a b as' bs e = cc

  one_list : (ys zs : List X) → IsUp ys → IsUp zs → ((x : X) → filter (ties lt x) ys ≡ filter (ties lt x) zs) → ys ≡ zs
  unfolding IsUp
  one_list [] [] u v h = refl
  one_list [] (z ∷ zs) u v h = let e : [] ≡ z ∷ filter (ties lt z) zs = h z ∙ ap (λ b. cond b (z ∷ filter (ties lt z) zs) (filter (ties lt z) zs)) (ties_itself z) in absurd cc
  one_list (y ∷ ys) [] u v h = let e : y ∷ filter (ties lt y) ys ≡ [] = sym (ap (λ b. cond b (y ∷ filter (ties lt y) ys) (filter (ties lt y) ys)) (ties_itself y)) ∙ h y in absurd cc
  one_list (y ∷ ys) (z ∷ zs) u v h =
      let from_y : filter (ties lt y) (z ∷ zs) ≡ y ∷ filter (ties lt y) ys = sym (h y) ∙ ap (λ b. cond b (y ∷ filter (ties lt y) ys) (filter (ties lt y) ys)) (ties_itself y) in
      let from_z : filter (ties lt z) (y ∷ ys) ≡ z ∷ filter (ties lt z) zs = h z ∙ ap (λ b. cond b (z ∷ filter (ties lt z) zs) (filter (ties lt z) zs)) (ties_itself z) in
      let equal : R y z ≡ Equal = neither y z (first_below y z zs v.0 y (filter (ties lt y) ys) from_y) (first_below z y ys u.0 z (filter (ties lt z) zs) from_z) in
      let same : y ≡ z = head_same y z (filter (ties lt y) ys) (filter (ties lt y) zs) (sym from_y ∙ ap (λ b. cond b (z ∷ filter (ties lt y) zs) (filter (ties lt y) zs)) (ties_of y z equal)) in
      let rest : ys ≡ zs = one_list ys zs u.1 v.1 (λ x. behind x same (ties lt x z) refl (h x)) in
      (λ i. same i ∷ rest i)
    where
      behind : (x : X) → y ≡ z → (b : Bool) → ties lt x z ≡ b → cond (ties lt x y) (y ∷ filter (ties lt x) ys) (filter (ties lt x) ys) ≡ cond (ties lt x z) (z ∷ filter (ties lt x) zs) (filter (ties lt x) zs) → filter (ties lt x) ys ≡ filter (ties lt x) zs
      behind x same true t e =
          tail_same y z _ _ (sym (ap (λ b. cond b (y ∷ filter (ties lt x) ys) (filter (ties lt x) ys)) (ap (ties lt x) same ∙ t)) ∙ (e ∙ ap (λ b. cond b (z ∷ filter (ties lt x) zs) (filter (ties lt x) zs)) t))
      behind x same false t e =
          sym (ap (λ b. cond b (y ∷ filter (ties lt x) ys) (filter (ties lt x) ys)) (ap (ties lt x) same ∙ t)) ∙ (e ∙ ap (λ b. cond b (z ∷ filter (ties lt x) zs) (filter (ties lt x) zs)) t)

  -- what a stable sort leaves is the sorted list
  pub stable_is_sorted : (xs ys : List X) → IsSortedBy (λ x y. is_lt (R x y)) ys → IsStableBy (λ x y. is_lt (R x y)) xs ys → ys ≡ sorted R xs
  stable_is_sorted xs ys s t = one_list ys (sorted R xs) (up_sorted ys s) (up-sorted xs) (λ x. t x ∙ sym (same-sorted x xs))

-- what is shown of each stands in the same order
module _ {X Y : Type 0} (f : X → Y) (R : Y → Y → Ordering) where
  map-inserted : (x : X) (ys : List X) → map f (inserted (λ a b. R (f a) (f b)) x ys) ≡ inserted R (f x) (map f ys)
  map-inserted x [] = refl
  map-inserted x (y ∷ ys) = elim (is_gt (R (f x) (f y))) as (λ b. map f (cond b (y ∷ inserted (λ a b. R (f a) (f b)) x ys) (x ∷ y ∷ ys)) ≡ cond b (f y ∷ inserted R (f x) (map f ys)) (f x ∷ f y ∷ map f ys)) [ true ↦ ap (λ l. f y ∷ l) (map-inserted x ys) | false ↦ refl ]

  pub map-sorted : (xs : List X) → map f (sorted (λ a b. R (f a) (f b)) xs) ≡ sorted R (map f xs)
  map-sorted [] = refl
  map-sorted (x ∷ xs) = map-inserted x (sorted (λ a b. R (f a) (f b)) xs) ∙ ap (inserted R (f x)) (map-sorted xs)

-- orders that answer alike sort alike
module _ {X : Type 0} (R S : X → X → Ordering) (alike : (x y : X) → R x y ≡ S x y) where
  same_order_in : (x : X) (ys : List X) → inserted R x ys ≡ inserted S x ys
  same_order_in x [] = refl
  same_order_in x (y ∷ ys) = ap (λ r. cond (is_gt r) (y ∷ inserted R x ys) (x ∷ y ∷ ys)) (alike x y) ∙ ap (λ l. cond (is_gt (S x y)) (y ∷ l) (x ∷ y ∷ ys)) (same_order_in x ys)

  pub same_order : (xs : List X) → sorted R xs ≡ sorted S xs
  same_order [] = refl
  same_order (x ∷ xs) = same_order_in x (sorted R xs) ∙ ap (inserted S x) (same_order xs)
