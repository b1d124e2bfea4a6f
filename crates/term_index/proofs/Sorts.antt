-- How lists are sorted: what a map has is sorted as the list of which it is made, and a list whose parts are in order is sorted part by part.
use Rattle.std.proofs.Common.{◌≡◌, ℕ, List, [], ◌∷◌, ◌++◌, Bool, true, false, cond, Some, None, filter, Ordering, Less, Equal, Greater, refl, sym, ap, subst, ◌∙◌}
use Rattle.std.specs.Cmp.{IsTotalOrder}
use Rattle.std.specs.Cmp.Lexicographic.{nat_list_cmp_total}
use Rattle.std.specs.FinMap.{empty, entries, find, put, from_entries, entries-insert, get-entries, get-from_entries, len-empty, len-entries}
use Rattle.std.specs.FinMap.Entries.{by_order}
use Rattle.std.specs.Ordering.{is_eq, is_gt, ordering_reverse}
use Rattle.std.proofs.lemmas.List.{nil_from_length}
use Rattle.spec_data.specs.Folding.{key_cmp}
use Rattle.spec_data.specs.Scalars.{Scalar}
use Rattle.spec_query.specs.Sorting.{inserted, sorted}
use Rattle.term_index.specs.Held.{AreApart}

never : {A : Type 0} → true ≡ false → A
never h = absurd cc

-- TWO THAT ARE PUT IN

module _ {X : Type 0} (R : X → X → Ordering) (o : IsTotalOrder R) where
  back : (x y : X) (r : Ordering) → R x y ≡ r → R y x ≡ ordering_reverse r
  back x y r h = o.antisymm y x ∙ ap ordering_reverse h

  -- what is below another is not above what that is not above
  low_stays : (x y z : X) → R x y ≡ Less → is_gt (R y z) ≡ false → is_gt (R x z) ≡ false
  low_stays x y z h g =
      elim (R y z) as (λ r. R y z ≡ r → is_gt r ≡ false → is_gt (R x z) ≡ false) [
        | Less ↦ λ e n. ap is_gt (o.trans x y z h e)
        | Equal ↦ λ e n. ap is_gt (back z x Greater (o.congr z y x (back y z Equal e) ∙ back x y Less h))
        | Greater ↦ λ e n. never n
      ] refl g

  pub either_first : (x y : X) (zs : List X) → R x y ≡ Less → inserted R x (inserted R y zs) ≡ inserted R y (inserted R x zs)
  either_first x y [] h =
      let g : R y x ≡ Greater = back x y Less h in
      ap (λ r. cond (is_gt r) (y ∷ x ∷ []) (x ∷ y ∷ [])) h ∙ sym (ap (λ r. cond (is_gt r) (x ∷ y ∷ []) (y ∷ x ∷ [])) g)
  either_first x y (z ∷ zs) h = by (is_gt (R x z)) (is_gt (R y z)) refl refl (either_first x y zs h)
    where
      by : (a b : Bool) → is_gt (R x z) ≡ a → is_gt (R y z) ≡ b → inserted R x (inserted R y zs) ≡ inserted R y (inserted R x zs)
          → inserted R x (cond b (z ∷ inserted R y zs) (y ∷ z ∷ zs)) ≡ inserted R y (cond a (z ∷ inserted R x zs) (x ∷ z ∷ zs))
      by true true p q ih =
          ap (λ c. cond c (z ∷ inserted R x (inserted R y zs)) (x ∷ z ∷ inserted R y zs)) p
          ∙ (ap (λ l. z ∷ l) ih ∙ sym (ap (λ c. cond c (z ∷ inserted R y (inserted R x zs)) (y ∷ z ∷ inserted R x zs)) q))
      by true false p q ih = never (sym p ∙ low_stays x y z h q)
      by false true p q ih =
          ap (λ c. cond c (z ∷ inserted R x (inserted R y zs)) (x ∷ z ∷ inserted R y zs)) p
          ∙ sym (ap (λ r. cond (is_gt r) (x ∷ inserted R y (z ∷ zs)) (y ∷ x ∷ z ∷ zs)) (back x y Less h) ∙ ap (λ c. x ∷ cond c (z ∷ inserted R y zs) (y ∷ z ∷ zs)) q)
      by false false p q ih =
          ap (λ r. cond (is_gt r) (y ∷ inserted R x (z ∷ zs)) (x ∷ y ∷ z ∷ zs)) h
          ∙ sym (ap (λ r. cond (is_gt r) (x ∷ inserted R y (z ∷ zs)) (y ∷ x ∷ z ∷ zs)) (back x y Less h) ∙ ap (λ c. x ∷ cond c (z ∷ inserted R y zs) (y ∷ z ∷ zs)) q)

  -- unless they are equal, either may be put in first
  pub in_turn : (x y : X) (zs : List X) → (R x y ≡ Equal → ⊥) → inserted R x (inserted R y zs) ≡ inserted R y (inserted R x zs)
  in_turn x y zs apart =
      elim (R x y) as (λ r. R x y ≡ r → inserted R x (inserted R y zs) ≡ inserted R y (inserted R x zs)) [
        | Less ↦ λ e. either_first x y zs e
        | Equal ↦ λ e. absurd (apart e)
        | Greater ↦ λ e. sym (either_first y x zs (back x y Greater e))
      ] refl

-- LISTS IN ORDER

module _ {X : Type 0} (R : X → X → Ordering) where
  -- it comes after each of these
  abbrev pub IsPast : X → List X → Type 0
  IsPast x [] = Unit {0}
  IsPast x (y ∷ ys) = (is_gt (R x y) ≡ true) × IsPast x ys

  abbrev pub ArePast : List X → List X → Type 0
  ArePast [] ys = Unit {0}
  ArePast (x ∷ xs) ys = IsPast x ys × ArePast xs ys

  -- it comes after none of these
  abbrev pub IsFirst : X → List X → Type 0
  IsFirst x [] = Unit {0}
  IsFirst x (y ∷ ys) = (is_gt (R x y) ≡ false) × IsFirst x ys

  abbrev pub IsUp : List X → Type 0
  IsUp [] = Unit {0}
  IsUp (x ∷ xs) = IsFirst x xs × IsUp xs

  put_first : (x : X) (ys : List X) → IsFirst x ys → inserted R x ys ≡ x ∷ ys
  put_first x [] f = refl
  put_first x (y ∷ ys) f = ap (λ b. cond b (y ∷ inserted R x ys) (x ∷ y ∷ ys)) f.0

  pub up_is_sorted : (xs : List X) → IsUp xs → sorted R xs ≡ xs
  up_is_sorted [] u = refl
  up_is_sorted (x ∷ xs) u = ap (inserted R x) (up_is_sorted xs u.1) ∙ put_first x xs u.0

  past-inserted : (x y : X) (ys : List X) → is_gt (R x y) ≡ true → IsPast x ys → IsPast x (inserted R y ys)
  past-inserted x y [] h p = (h, tt)
  past-inserted x y (z ∷ zs) h p = elim (is_gt (R y z)) as (λ b. IsPast x (cond b (z ∷ inserted R y zs) (y ∷ z ∷ zs))) [ true ↦ (p.0, past-inserted x y zs h p.1) | false ↦ (h, p) ]

  past-sorted : (x : X) (ys : List X) → IsPast x ys → IsPast x (sorted R ys)
  past-sorted x [] p = tt
  past-sorted x (y ∷ ys) p = past-inserted x y (sorted R ys) p.0 (past-sorted x ys p.1)

  put_past : (x : X) (ys zs : List X) → IsPast x ys → inserted R x (ys ++ zs) ≡ ys ++ inserted R x zs
  put_past x [] zs p = refl
  put_past x (y ∷ ys) zs p = ap (λ b. cond b (y ∷ inserted R x (ys ++ zs)) (x ∷ y ∷ (ys ++ zs))) p.0 ∙ ap (λ l. y ∷ l) (put_past x ys zs p.1)

  -- if all of the first part come after the second, it is sorted behind that
  pub parts_sorted : (xs ys : List X) → ArePast xs ys → sorted R (xs ++ ys) ≡ sorted R ys ++ sorted R xs
  parts_sorted [] ys p = sym (append_none (sorted R ys))
    where
      append_none : (l : List X) → l ++ [] ≡ l
      append_none [] = refl
      append_none (y ∷ l) = ap (λ m. y ∷ m) (append_none l)
  parts_sorted (x ∷ xs) ys p = ap (inserted R x) (parts_sorted xs ys p.1) ∙ put_past x (sorted R ys) (sorted R xs) (past-sorted x ys p.0)

-- WHAT A MAP HAS

module _ (p : List ℕ × Scalar → Bool) (R : List ℕ × Scalar → List ℕ × Scalar → Ordering) where
  -- if the two are equal, the first has the lower id
  abbrev pub IsTie : List ℕ × Scalar → List ℕ × Scalar → Type 0
  IsTie e f = p e ≡ true → p f ≡ true → R e f ≡ Equal → key_cmp e.0 f.0 ≡ Less

  abbrev pub HasTies : List ℕ × Scalar → List (List ℕ × Scalar) → Type 0
  HasTies e [] = Unit {0}
  HasTies e (f ∷ fs) = IsTie e f × HasTies e fs

  abbrev pub AreTies : List (List ℕ × Scalar) → Type 0
  AreTies [] = Unit {0}
  AreTies (e ∷ es) = HasTies e es × AreTies es

module _ (p : List ℕ × Scalar → Bool) (R : List ℕ × Scalar → List ℕ × Scalar → Ordering) (o : IsTotalOrder R) where
  abbrev kept : List (List ℕ × Scalar) → List (List ℕ × Scalar)
  kept es = filter p es

  later : (k : List ℕ) (y : List ℕ × Scalar) (ys : List (List ℕ × Scalar)) (r : Ordering) → key_cmp k y.0 ≡ r → is_eq r ≡ false → find key_cmp k (y ∷ ys) ≡ None → find key_cmp k ys ≡ None
  later k y ys r h n none = sym (ap (λ b. cond b (Some y.1) (find key_cmp k ys)) (ap is_eq h ∙ n)) ∙ none

  found : (k : List ℕ) (y : List ℕ × Scalar) (ys : List (List ℕ × Scalar)) → key_cmp k y.0 ≡ Equal → find key_cmp k (y ∷ ys) ≡ None → ⊥
  found k y ys h none = let two : Some y.1 ≡ None = sym (ap (λ r. cond (is_eq r) (Some y.1) (find key_cmp k ys)) h) ∙ none in absurd cc

  less_or_not : (a b : List ℕ) → key_cmp a b ≡ Less → key_cmp a b ≡ Greater → ⊥
  less_or_not a b h g = let two : Less ≡ Greater = sym h ∙ g in absurd cc

  pub put_sorts : (k : List ℕ) (v : Scalar) (es : List (List ℕ × Scalar)) → find key_cmp k es ≡ None → HasTies p R (k, v) es → sorted R (kept (put key_cmp k v es)) ≡ sorted R (kept ((k, v) ∷ es))
  put_sorts k v [] none t = refl
  put_sorts k v (y ∷ ys) none t =
      elim (key_cmp k y.0) as (λ r. key_cmp k y.0 ≡ r → sorted R (kept (by_order r ((k, v) ∷ y ∷ ys) ((y.0, v) ∷ ys) (y ∷ put key_cmp k v ys))) ≡ sorted R (kept ((k, v) ∷ y ∷ ys))) [
        | Less ↦ λ h. refl
        | Equal ↦ λ h. absurd (found k y ys h none)
        | Greater ↦ λ h. past h (put_sorts k v ys (later k y ys Greater h refl none) t.1) (p y) (p (k, v)) refl refl
      ] refl
    where
      past : key_cmp k y.0 ≡ Greater → sorted R (kept (put key_cmp k v ys)) ≡ sorted R (kept ((k, v) ∷ ys)) → (a b : Bool) → p y ≡ a → p (k, v) ≡ b
          → sorted R (cond a (y ∷ kept (put key_cmp k v ys)) (kept (put key_cmp k v ys))) ≡ sorted R (cond b ((k, v) ∷ cond a (y ∷ kept ys) (kept ys)) (cond a (y ∷ kept ys) (kept ys)))
      past h ih true true py pk =
          ap (inserted R y) (ih ∙ ap (λ b. sorted R (cond b ((k, v) ∷ kept ys) (kept ys))) pk)
          ∙ sym (in_turn R o (k, v) y (sorted R (kept ys)) (λ e. less_or_not k y.0 (t.0 pk py e) h))
      past h ih true false py pk = ap (inserted R y) (ih ∙ ap (λ b. sorted R (cond b ((k, v) ∷ kept ys) (kept ys))) pk)
      past h ih false true py pk = ih ∙ ap (λ b. sorted R (cond b ((k, v) ∷ kept ys) (kept ys))) pk
      past h ih false false py pk = ih ∙ ap (λ b. sorted R (cond b ((k, v) ∷ kept ys) (kept ys))) pk

  ties-put : (e : List ℕ × Scalar) (k : List ℕ) (v : Scalar) (es : List (List ℕ × Scalar)) → find key_cmp k es ≡ None → IsTie p R e (k, v) → HasTies p R e es → HasTies p R e (put key_cmp k v es)
  ties-put e k v [] none i t = (i, tt)
  ties-put e k v (y ∷ ys) none i t =
      elim (key_cmp k y.0) as (λ r. key_cmp k y.0 ≡ r → HasTies p R e (by_order r ((k, v) ∷ y ∷ ys) ((y.0, v) ∷ ys) (y ∷ put key_cmp k v ys))) [
        | Less ↦ λ h. (i, t)
        | Equal ↦ λ h. absurd (found k y ys h none)
        | Greater ↦ λ h. (t.0, ties-put e k v ys (later k y ys Greater h refl none) i t.1)
      ] refl

  -- in the map of a list an id is found that is found in the list
  absent : (k : List ℕ) (es : List (List ℕ × Scalar)) → find key_cmp k es ≡ None → find key_cmp k (entries (from_entries {R = key_cmp} es)) ≡ None
  absent k es none = sym (get-entries (from_entries {R = key_cmp} es) k) ∙ (get-from_entries nat_list_cmp_total es k ∙ none)

  none_first : entries (empty {X = Scalar} {R = key_cmp}) ≡ []
  none_first = nil_from_length (entries (empty {X = Scalar} {R = key_cmp})) (sym (len-entries (empty {X = Scalar} {R = key_cmp})) ∙ len-empty key_cmp Scalar)

  put_in : (e : List ℕ × Scalar) (es : List (List ℕ × Scalar)) → entries (from_entries {R = key_cmp} (e ∷ es)) ≡ put key_cmp e.0 e.1 (entries (from_entries {R = key_cmp} es))
  put_in e es = entries-insert nat_list_cmp_total (from_entries {R = key_cmp} es) e.0 e.1

  ties-map : (e : List ℕ × Scalar) (es : List (List ℕ × Scalar)) → AreApart es → HasTies p R e es → HasTies p R e (entries (from_entries {R = key_cmp} es))
  ties-map e [] a t = subst (HasTies p R e) (sym none_first) tt
  ties-map e (f ∷ es) a t =
      subst (HasTies p R e) (sym (put_in f es)) (ties-put e f.0 f.1 (entries (from_entries {R = key_cmp} es)) (absent f.0 es a.0) t.0 (ties-map e es a.1 t.1))

  -- the entries of the map of a list are sorted as the list is
  pub entries_sorted : (es : List (List ℕ × Scalar)) → AreApart es → AreTies p R es → sorted R (kept (entries (from_entries {R = key_cmp} es))) ≡ sorted R (kept es)
  entries_sorted [] a t = ap (λ l. sorted R (kept l)) none_first
  entries_sorted (e ∷ es) a t =
      ap (λ l. sorted R (kept l)) (put_in e es)
      ∙ (put_sorts e.0 e.1 (entries (from_entries {R = key_cmp} es)) (absent e.0 es a.0) (ties-map e es a.1 t.0)
      ∙ by (p e) (entries_sorted es a.1 t.1))
    where
      by : (b : Bool) → sorted R (kept (entries (from_entries {R = key_cmp} es))) ≡ sorted R (kept es)
          → sorted R (cond b (e ∷ kept (entries (from_entries {R = key_cmp} es))) (kept (entries (from_entries {R = key_cmp} es)))) ≡ sorted R (cond b (e ∷ kept es) (kept es))
      by true ih = ap (inserted R e) ih
      by false ih = ih
