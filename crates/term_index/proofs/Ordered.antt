-- Sets of ids as lists in order.
use Rattle.std.proofs.Common.{◌≡◌, ℕ, suc, ◌+◌, ◌<◌, ◌≤◌, List, [], ◌∷◌, ◌++◌, length, get_or, drop, Bool, true, false, cond, not, ◌||◌, ◌&&◌, filter, Ordering, Less, Equal, Greater, refl, sym, ap, ◌∙◌, subst, zero, append_assoc, arith}
use Rattle.std.specs.List.{dedup, dedup_from, list_any}
use Rattle.std.specs.List.Sorted.{IsPermutation, IsSorted}
use Rattle.std.specs.Ordering.{is_lt, is_eq, is_le, ordering_reverse}
use Rattle.std.proofs.lemmas.List.{drop_more, drop_all, append-nil}
use Rattle.std.proofs.lemmas.List.Sorted.{list_any-IsPermutation, sorted_far, ranks_by}
use Rattle.std.proofs.lemmas.Cmp.{tied_itself}
use Rattle.spec_data.specs.Folding.{folded, key_cmp}
use Rattle.reference_track.specs.Sets.{id_cmp, is_id, is_one_of, IsBelowAll, AreInOrder}
use Rattle.reference_track.proofs.SetLemmas.{id_total, is_eq-id_cmp, same_id, is_id-alike, is_one_of-alike, id_itself}
use Rattle.term_index.specs.Held.{is_first}

abbrev Ids : Type 0
Ids = List (List ℕ)

-- MEMBERS

pub is_one_of-any : (q : List ℕ) (ids : Ids) → is_one_of q ids ≡ list_any (is_id q) ids
is_one_of-any q [] = refl
is_one_of-any q (x ∷ ids) = ap (λ b. is_id q x || b) (is_one_of-any q ids)

pub is_one_of-both : (q : List ℕ) (xs ys : Ids) → is_one_of q (xs ++ ys) ≡ is_one_of q xs || is_one_of q ys
is_one_of-both q [] ys = refl
is_one_of-both q (x ∷ xs) ys = elim (is_id q x) as (λ b. b || is_one_of q (xs ++ ys) ≡ (b || is_one_of q xs) || is_one_of q ys) [ true ↦ refl | false ↦ is_one_of-both q xs ys ]

pub is_one_of-permutation : (q : List ℕ) (xs ys : Ids) → IsPermutation xs ys → is_one_of q ys ≡ is_one_of q xs
is_one_of-permutation q xs ys p = is_one_of-any q ys ∙ (sym (list_any-IsPermutation (is_id q) xs ys p) ∙ sym (is_one_of-any q xs))

again : (b c : Bool) → b || c ≡ b || (b || c)
again true c = refl
again false c = refl

is_one_of-dedup_from : (q k : List ℕ) (xs : Ids) → is_one_of q (dedup_from is_id k xs) ≡ is_id q k || is_one_of q xs
is_one_of-dedup_from q k [] = refl
is_one_of-dedup_from q k (x ∷ xs) =
    elim (is_id x k) as (λ b. is_id x k ≡ b → is_one_of q (cond b (dedup_from is_id k xs) (k ∷ dedup_from is_id x xs)) ≡ is_id q k || (is_id q x || is_one_of q xs)) [
      | true ↦ λ h. is_one_of-dedup_from q k xs ∙ (again (is_id q k) (is_one_of q xs) ∙ ap (λ b. is_id q k || (b || is_one_of q xs)) (is_id-alike q k x (sym (same_id x k h))))
      | false ↦ λ h. ap (λ b. is_id q k || b) (is_one_of-dedup_from q x xs)
    ] refl

pub is_one_of-dedup : (q : List ℕ) (xs : Ids) → is_one_of q (dedup is_id xs) ≡ is_one_of q xs
is_one_of-dedup q [] = refl
is_one_of-dedup q (x ∷ xs) = is_one_of-dedup_from q x xs

-- ORDER

-- none of these is below the id
abbrev NoneBelow : List ℕ → Ids → Type 0
NoneBelow k [] = Unit {0}
NoneBelow k (x ∷ xs) = (is_lt (id_cmp x k) ≡ false) × NoneBelow k xs

abbrev IsUp : Ids → Type 0
IsUp [] = Unit {0}
IsUp (x ∷ xs) = NoneBelow x xs × IsUp xs

none_below_from : (k : List ℕ) (xs : Ids) → ((j : ℕ) (d : List ℕ) → j < length xs → is_lt (id_cmp (get_or xs j d) k) ≡ false) → NoneBelow k xs
none_below_from k [] h = tt
none_below_from k (x ∷ xs) h = (h 0 k (omega arith), none_below_from k xs (λ j d lt. h (suc j) d (omega arith)))

up_from : (xs : Ids) → ((i j : ℕ) (d : List ℕ) → i ≤ j → j < length xs → is_lt (id_cmp (get_or xs j d) (get_or xs i d)) ≡ false) → IsUp xs
up_from [] h = tt
up_from (x ∷ xs) h = (none_below_from x xs (λ j d lt. h 0 (suc j) d (omega arith) (omega arith)), up_from xs (λ i j d le lt. h (suc i) (suc j) d (omega arith) (omega arith)))

up_from_sorted : (xs : Ids) → IsSorted id_cmp xs → IsUp xs
up_from_sorted xs s = up_from xs (sorted_far (λ x y. is_lt (id_cmp x y)) (ranks_by id_total (λ (x : List ℕ). x)) xs s)

pub greater : (x k : List ℕ) (r : Ordering) → id_cmp x k ≡ r → is_lt (id_cmp x k) ≡ false → is_id x k ≡ false → id_cmp k x ≡ Less
greater x k Less e h n = let two : true ≡ false = sym (ap is_lt e) ∙ h in absurd cc
greater x k Equal e h n = let two : true ≡ false = sym (ap is_eq e) ∙ (is_eq-id_cmp x k ∙ n) in absurd cc
greater x k Greater e h n = id_total.antisymm k x ∙ ap ordering_reverse e

-- what is below an id is below all that are not below this one
past : (a k x : List ℕ) (r : Ordering) → id_cmp x k ≡ r → id_cmp a k ≡ Less → is_lt (id_cmp x k) ≡ false → id_cmp a x ≡ Less
past a k x Less e below h = let two : true ≡ false = sym (ap is_lt e) ∙ h in absurd cc
past a k x Equal e below h = id_total.antisymm a x ∙ ap ordering_reverse (id_total.congr x k a e ∙ id_total.antisymm k a) ∙ (twice_back (id_cmp a k) ∙ below)
  where
    twice_back : (o : Ordering) → ordering_reverse (ordering_reverse o) ≡ o
    twice_back Less = refl
    twice_back Equal = refl
    twice_back Greater = refl
past a k x Greater e below h = id_total.trans a k x below (id_total.antisymm k x ∙ ap ordering_reverse e)

below_dedup : (a k : List ℕ) (xs : Ids) → id_cmp a k ≡ Less → NoneBelow k xs → IsUp xs → IsBelowAll a (dedup_from is_id k xs)
below_dedup a k [] h n up = (h, tt)
below_dedup a k (x ∷ xs) h n up =
    elim (is_id x k) as (λ b. IsBelowAll a (cond b (dedup_from is_id k xs) (k ∷ dedup_from is_id x xs))) [
      | true ↦ below_dedup a k xs h n.1 up.1
      | false ↦ (h, below_dedup a x xs (past a k x (id_cmp x k) refl h n.0) up.0 up.1)
    ]

order-dedup_from : (k : List ℕ) (xs : Ids) → NoneBelow k xs → IsUp xs → AreInOrder (dedup_from is_id k xs)
order-dedup_from k [] n up = (tt, tt)
order-dedup_from k (x ∷ xs) n up =
    elim (is_id x k) as (λ b. is_id x k ≡ b → AreInOrder (cond b (dedup_from is_id k xs) (k ∷ dedup_from is_id x xs))) [
      | true ↦ λ h. order-dedup_from k xs n.1 up.1
      | false ↦ λ h. (below_dedup k x xs (greater x k (id_cmp x k) refl n.0 h) up.0 up.1, order-dedup_from x xs up.0 up.1)
    ] refl

pub order-dedup : (xs : Ids) → IsSorted id_cmp xs → AreInOrder (dedup is_id xs)
order-dedup xs s = by xs (up_from_sorted xs s)
  where
    by : (ys : Ids) → IsUp ys → AreInOrder (dedup is_id ys)
    by [] up = tt
    by (y ∷ ys) up = order-dedup_from y ys up.0 up.1

-- A SEARCH FROM THE FIRST ON

-- an id that is not past the first of the ids is one of them only if it is the first
apart_below : (x : List ℕ) (ys : Ids) → IsBelowAll x ys → is_one_of x ys ≡ false
apart_below x [] h = refl
apart_below x (y ∷ ys) h = ap (λ b. b || is_one_of x ys) (sym (is_eq-id_cmp x y) ∙ ap is_eq h.0) ∙ apart_below x ys h.1

pub below_too : (x y : List ℕ) (zs : Ids) → id_cmp x y ≡ Less → IsBelowAll y zs → IsBelowAll x zs
below_too x y [] h b = tt
below_too x y (z ∷ zs) h b = (id_total.trans x y z h b.0, below_too x y zs h b.1)

pub first_is : (x y : List ℕ) (ys : Ids) → AreInOrder (y ∷ ys) → is_lt (id_cmp y x) ≡ false → is_one_of x (y ∷ ys) ≡ is_id x y
first_is x y ys up h =
    elim (is_id x y) as (λ b. is_id x y ≡ b → b || is_one_of x ys ≡ b) [
      | true ↦ λ t. refl
      | false ↦ λ t. apart_below x ys (below_too x y ys (greater y x (id_cmp y x) refl h (flipped t)) up.0)
    ] refl
  where
    flipped : is_id x y ≡ false → is_id y x ≡ false
    flipped t = elim (is_id y x) as (λ b. is_id y x ≡ b → b ≡ false) [ true ↦ λ g. sym (id_itself x) ∙ (is_id-alike x x y (sym (same_id y x g)) ∙ t) | false ↦ λ g. refl ] refl

-- without an id that is below another, the ids have the same from that other on
pub passed_over : (x y q : List ℕ) (ys : Ids) → id_cmp y x ≡ Less → is_le (id_cmp x q) ≡ true → is_one_of q (y ∷ ys) ≡ is_one_of q ys
passed_over x y q ys h le = ap (λ b. b || is_one_of q ys) (not_same (id_cmp x q) refl)
  where
    less : (o : Ordering) → id_cmp y q ≡ o → o ≡ Less → is_id q y ≡ false
    less o e l = sym (is_eq-id_cmp q y) ∙ ap is_eq (id_total.antisymm q y ∙ ap ordering_reverse (e ∙ l))

    not_same : (r : Ordering) → id_cmp x q ≡ r → is_id q y ≡ false
    not_same Less e = less (id_cmp y q) refl (id_total.trans y x q h e)
    not_same Equal e = less (id_cmp y q) refl (back (id_cmp q y) refl)
      where
        back : (o : Ordering) → id_cmp q y ≡ o → id_cmp y q ≡ Less
        back o f = id_total.antisymm y q ∙ ap ordering_reverse (sym (id_total.congr x q y e) ∙ (id_total.antisymm x y ∙ ap ordering_reverse h))
    not_same Greater e = let two : false ≡ true = sym (ap is_le e) ∙ le in absurd cc

-- THOSE THAT PASS

module _ (p : List ℕ → Bool) where
  pub order-filter : (ids : Ids) → AreInOrder ids → AreInOrder (filter p ids)
  order-filter [] up = tt
  order-filter (x ∷ ids) up = elim (p x) as (λ b. AreInOrder (cond b (x ∷ filter p ids) (filter p ids))) [ true ↦ (below x ids up.0, order-filter ids up.1) | false ↦ order-filter ids up.1 ]
    where
      below : (k : List ℕ) (ys : Ids) → IsBelowAll k ys → IsBelowAll k (filter p ys)
      below k [] h = tt
      below k (y ∷ ys) h = elim (p y) as (λ b. IsBelowAll k (cond b (y ∷ filter p ys) (filter p ys))) [ true ↦ (h.0, below k ys h.1) | false ↦ below k ys h.1 ]

  pub is_one_of-filter : ((x y : List ℕ) → folded x ≡ folded y → p x ≡ p y) → (q : List ℕ) (ids : Ids) → is_one_of q (filter p ids) ≡ is_one_of q ids && p q
  is_one_of-filter alike q [] = refl
  is_one_of-filter alike q (x ∷ ids) =
      let rest = is_one_of-filter alike q ids in
      elim (is_id q x) as (λ b. is_id q x ≡ b → is_one_of q (cond (p x) (x ∷ filter p ids) (filter p ids)) ≡ (b || is_one_of q ids) && p q) [
        | true ↦ λ h. here rest h (p x) refl
        | false ↦ λ h. there rest h (p x)
      ] refl
    where
      none : (b : Bool) → b && false ≡ false
      none true = refl
      none false = refl

      here : is_one_of q (filter p ids) ≡ is_one_of q ids && p q → is_id q x ≡ true → (b : Bool) → p x ≡ b → is_one_of q (cond b (x ∷ filter p ids) (filter p ids)) ≡ p q
      here rest h true e = ap (λ c. c || is_one_of q (filter p ids)) h ∙ (sym e ∙ sym (alike q x (same_id q x h)))
      here rest h false e = rest ∙ (ap (λ c. is_one_of q ids && c) (alike q x (same_id q x h) ∙ e) ∙ (none (is_one_of q ids) ∙ (sym e ∙ sym (alike q x (same_id q x h)))))

      there : is_one_of q (filter p ids) ≡ is_one_of q ids && p q → is_id q x ≡ false → (b : Bool) → is_one_of q (cond b (x ∷ filter p ids) (filter p ids)) ≡ is_one_of q ids && p q
      there rest h true = ap (λ c. c || is_one_of q (filter p ids)) h ∙ rest
      there rest h false = rest

-- the id is among the others, or it is not, as is asked
abbrev pub stays : Bool → Ids → List ℕ → Bool
stays inside others x = cond inside (is_one_of x others) (not (is_one_of x others))

pub stays_alike : (inside : Bool) (others : Ids) (x y : List ℕ) → folded x ≡ folded y → stays inside others x ≡ stays inside others y
stays_alike true others x y h = is_one_of-alike x y others h
stays_alike false others x y h = ap not (is_one_of-alike x y others h)

le_below : (x q : List ℕ) (ys : Ids) → IsBelowAll x ys → is_one_of q ys ≡ true → is_le (id_cmp x q) ≡ true
le_below x q [] b h = absurd cc
le_below x q (y ∷ ys) b h =
    elim (is_id q y) as (λ c. is_id q y ≡ c → c || is_one_of q ys ≡ true → is_le (id_cmp x q) ≡ true) [
      | true ↦ λ e g. ap is_le (ap (λ (f : List ℕ). key_cmp (folded x) f) (same_id q y e) ∙ b.0)
      | false ↦ λ e g. le_below x q ys b.1 g
    ] refl h

-- one more of the ids is looked at: `rest` is what is left of the others from it on
pub kept_step : (inside : Bool) (ids others kept rest next : Ids) (i : ℕ) (x : List ℕ) → i < length ids → get_or ids i x ≡ x → AreInOrder ids
    → kept ++ filter (stays inside others) (drop i ids) ≡ filter (stays inside others) ids
    → ((q : List ℕ) → is_one_of q (drop i ids) ≡ true → is_one_of q rest ≡ is_one_of q others)
    → ((q : List ℕ) → is_le (id_cmp x q) ≡ true → is_one_of q next ≡ is_one_of q rest)
    → is_one_of x next ≡ is_first x next
    → ((kept ++ cond (cond inside (is_first x next) (not (is_first x next))) (x ∷ []) []) ++ filter (stays inside others) (drop (i + 1) ids) ≡ filter (stays inside others) ids)
    × ((q : List ℕ) → is_one_of q (drop (i + 1) ids) ≡ true → is_one_of q next ≡ is_one_of q others)
kept_step inside ids others kept rest next i x lt at up is in_rest from first =
    let more : drop i ids ≡ x ∷ drop (i + 1) ids = drop_more ids i x lt ∙ ap (λ z. z ∷ drop (i + 1) ids) at in
    let here : is_one_of x others ≡ is_first x next = sym (in_rest x (ap (is_one_of x) more ∙ ap (λ b. b || is_one_of x (drop (i + 1) ids)) (id_itself x))) ∙ (sym (from x (same_le x)) ∙ first) in
    let keeps : stays inside others x ≡ cond inside (is_first x next) (not (is_first x next)) = ap (λ b. cond inside b (not b)) here in
    let below : IsBelowAll x (drop (i + 1) ids) = (subst AreInOrder more (drop_order i ids up)).0 in (
      ap (λ b. (kept ++ cond b (x ∷ []) []) ++ filter (stays inside others) (drop (i + 1) ids)) (sym keeps)
          ∙ (joined (stays inside others x) ∙ (ap (λ l. kept ++ filter (stays inside others) l) (sym more) ∙ is)),
      λ q h. from q (le_below x q (drop (i + 1) ids) below h) ∙ in_rest q (ap (is_one_of q) more ∙ later (is_id q x) h),
    )
  where
    same_le : (y : List ℕ) → is_le (id_cmp y y) ≡ true
    same_le y = ap is_le (tied_itself id_total y)

    later : (b : Bool) {c : Bool} → c ≡ true → b || c ≡ true
    later true h = refl
    later false h = h

    joined : (b : Bool) → (kept ++ cond b (x ∷ []) []) ++ filter (stays inside others) (drop (i + 1) ids) ≡ kept ++ cond b (x ∷ filter (stays inside others) (drop (i + 1) ids)) (filter (stays inside others) (drop (i + 1) ids))
    joined true = append_assoc kept (x ∷ []) (filter (stays inside others) (drop (i + 1) ids))
    joined false = ap (λ l. l ++ filter (stays inside others) (drop (i + 1) ids)) (append-nil kept)

    drop_order : (n : ℕ) (ys : Ids) → AreInOrder ys → AreInOrder (drop n ys)
    drop_order zero ys h = h
    drop_order (suc n) [] h = h
    drop_order (suc n) (y ∷ ys) h = drop_order n ys h.1

pub less_of : (o : Ordering) → is_lt o ≡ true → o ≡ Less
less_of Less h = refl
less_of Equal h = absurd cc
less_of Greater h = absurd cc

pub from_step : (x y : List ℕ) (ids rest more : Ids) → rest ≡ y ∷ more → is_lt (id_cmp y x) ≡ true → ((q : List ℕ) → is_le (id_cmp x q) ≡ true → is_one_of q rest ≡ is_one_of q ids) → (q : List ℕ) → is_le (id_cmp x q) ≡ true → is_one_of q more ≡ is_one_of q ids
from_step x y ids rest more is h inv q le = sym (passed_over x y q more (less_of (id_cmp y x) h) le) ∙ (ap (is_one_of q) (sym is) ∙ inv q le)

pub from_end : (x y : List ℕ) (rest more : Ids) → rest ≡ y ∷ more → AreInOrder rest → is_lt (id_cmp y x) ≡ false → is_one_of x rest ≡ is_first x rest
from_end x y rest more is up h = ap (is_one_of x) is ∙ (first_is x y more (subst AreInOrder is up) h ∙ ap (is_first x) (sym is))

-- all of the ids have been looked at
pub kept_all : (inside : Bool) (ids others kept : Ids) (i : ℕ) → length ids ≤ i → kept ++ filter (stays inside others) (drop i ids) ≡ filter (stays inside others) ids → kept ≡ filter (stays inside others) ids
kept_all inside ids others kept i past is = sym (append-nil kept) ∙ (ap (λ l. kept ++ filter (stays inside others) l) (sym (drop_all i ids past)) ∙ is)
