-- A stable sort by id changes nothing in what is shown under the ids.
use Rattle.std.proofs.Common.{◌≡◌, ℕ, List, [], ◌∷◌, Bool, true, false, cond, not, ◌&&◌, Option, Some, None, filter, length, map, Ordering, Less, Equal, Greater, refl, sym, ap, ◌∙◌, arith}
use Rattle.std.specs.Ordering.{is_eq, is_lt, ordering_reverse}
use Rattle.std.specs.Cmp.{IsTotalOrder}
use Rattle.std.specs.Cmp.Lexicographic.{nat_list_cmp_total}
use Rattle.std.specs.FinMap.{FinMap, empty, entries, get, insert, put as put_entry, entries-insert, get-insert, len-empty, len-entries, same_map, nat_cmp-IsAntisymmetric, slice_cmp-IsAntisymmetric}
use Rattle.std.specs.List.Sorted.{IsStableBy, ties}
use Rattle.std.proofs.lemmas.List.Elements.{filter_agree}
use Rattle.spec_data.specs.Data.{Data}
use Rattle.spec_data.specs.Folding.{key_cmp}
use Rattle.spec_data.specs.Rising.{Pairs, put}
use Rattle.spec_data.specs.Rows.{Row}
use Rattle.rql_results.specs.Led.{with_all}

total : IsTotalOrder key_cmp
total = nat_list_cmp_total

key_ties : (a b : List ℕ) → key_cmp a b ≡ Equal → a ≡ b
key_ties = slice_cmp-IsAntisymmetric nat_cmp-IsAntisymmetric

tied : (o : Ordering) → is_eq o ≡ true → o ≡ Equal
tied Less h = absurd cc
tied Equal h = refl
tied Greater h = absurd cc

-- members that rise are the entries of a map
put_is : (k : List ℕ) (v : Data) (members : Pairs) → put k v members ≡ put_entry key_cmp k v members
put_is k v [] = refl
put_is k v (m ∷ members) =
    elim (key_cmp k m.0) as (λ o. key_cmp k m.0 ≡ o → put k v (m ∷ members) ≡ put_entry key_cmp k v (m ∷ members)) [
      | Less ↦ λ h. rw h refl
      | Equal ↦ λ h. rw h (ap (λ n. (n, v) ∷ members) (key_ties k m.0 h))
      | Greater ↦ λ h. rw h (ap (λ more. m ∷ more) (put_is k v members))
    ] refl

none_long : (es : Pairs) → length es ≡ 0 → es ≡ []
none_long [] h = refl
none_long (e ∷ es) h = absurd (omega arith)

no_entries : entries (empty {X = Data} {R = key_cmp}) ≡ []
no_entries = none_long (entries empty) (sym (len-entries (empty {X = Data} {R = key_cmp})) ∙ len-empty key_cmp Data)

neither_less : (a b : Ordering) → b ≡ ordering_reverse a → not (is_lt a) && not (is_lt b) ≡ is_eq a
neither_less a b turned =
    ap (λ o. not (is_lt a) && not (is_lt o)) turned ∙ elim a as (λ o. not (is_lt o) && not (is_lt (ordering_reverse o)) ≡ is_eq o) [ Less ↦ refl | Equal ↦ refl | Greater ↦ refl ]

module _ {X : Type 0} (of : X → Row × Data) where
  -- the order, as the sort tests it
  abbrev pub below : X → X → Bool
  below a b = is_lt (key_cmp (of a).0.id (of b).0.id)

  abbrev is_under : List ℕ → X → Bool
  is_under q x = is_eq (key_cmp q (of x).0.id)

  -- THOSE UNDER ONE ID

  ties_are : (q : List ℕ) (x : X) → is_under q x ≡ true → (y : X) → ties below x y ≡ is_under q y
  ties_are q x h y =
      neither_less (key_cmp (of x).0.id (of y).0.id) (key_cmp (of y).0.id (of x).0.id) (total.antisymm (of y).0.id (of x).0.id)
      ∙ ap (λ k. is_eq (key_cmp k (of y).0.id)) (sym (key_ties q (of x).0.id (tied (key_cmp q (of x).0.id) h)))

  first_passes : (p : X → Bool) (xs : List X) (x : X) (more : List X) → filter p xs ≡ x ∷ more → p x ≡ true
  first_passes p [] x more h = absurd cc
  first_passes p (y ∷ xs) x more h =
      elim (p y) as (λ b. p y ≡ b → cond b (y ∷ filter p xs) (filter p xs) ≡ x ∷ more → p x ≡ true) [
        | true ↦ λ e is. ap p (let same : x ≡ y = cc in same) ∙ e
        | false ↦ λ e is. first_passes p xs x more is
      ] refl h

  alike : (q : List ℕ) (xs ys : List X) → IsStableBy below xs ys → (x : X) → is_under q x ≡ true → filter (is_under q) ys ≡ filter (is_under q) xs
  alike q xs ys stable x h =
      sym (filter_agree (ties below x) (is_under q) (ties_are q x h) ys) ∙ stable x ∙ filter_agree (ties below x) (is_under q) (ties_are q x h) xs

  same_under : (q : List ℕ) (xs ys : List X) → IsStableBy below xs ys → filter (is_under q) ys ≡ filter (is_under q) xs
  same_under q xs ys stable =
      elim (filter (is_under q) xs) as (λ l. filter (is_under q) xs ≡ l → filter (is_under q) ys ≡ l) [
        | [] ↦ λ none. elim (filter (is_under q) ys) as (λ l. filter (is_under q) ys ≡ l → l ≡ []) [
          | [] ↦ λ h. refl
          | x ∷ more ↦ λ h. sym h ∙ alike q xs ys stable x (first_passes (is_under q) ys x more h) ∙ none
        ] refl
        | x ∷ more ↦ λ h. alike q xs ys stable x (first_passes (is_under q) xs x more h) ∙ h
      ] refl

  module _ (show : Row → Data → Data) where
    abbrev shown : X → Data
    shown x = show (of x).0 (of x).1

    -- AS A MAP

    inserted : List X → FinMap key_cmp Data → FinMap key_cmp Data
    inserted [] m = m
    inserted (x ∷ xs) m = inserted xs (insert m (of x).0.id (shown x))

    entries_are : (xs : List X) (m : FinMap key_cmp Data) → with_all show (map of xs) (entries m) ≡ entries (inserted xs m)
    unfolding inserted
    entries_are [] m = refl
    entries_are (x ∷ xs) m =
        ap (with_all show (map of xs)) (put_is (of x).0.id (shown x) (entries m) ∙ sym (entries-insert total m (of x).0.id (shown x)))
        ∙ entries_are xs (insert m (of x).0.id (shown x))

    last_of : List X → Option Data → Option Data
    last_of [] o = o
    last_of (x ∷ xs) o = last_of xs (Some (shown x))

    got : (q : List ℕ) (xs : List X) (m : FinMap key_cmp Data) → get (inserted xs m) q ≡ last_of (filter (is_under q) xs) (get m q)
    unfolding inserted last_of
    got q [] m = refl
    got q (x ∷ xs) m =
        got q xs (insert m (of x).0.id (shown x)) ∙ ap (last_of (filter (is_under q) xs)) (get-insert total m (of x).0.id (shown x) q)
        ∙ elim (is_under q x) as (λ b. last_of (filter (is_under q) xs) (cond b (Some (shown x)) (get m q)) ≡ last_of (cond b (x ∷ filter (is_under q) xs) (filter (is_under q) xs)) (get m q)) [ true ↦ refl | false ↦ refl ]

    pub order_is_free : (xs ys : List X) → IsStableBy below xs ys → with_all show (map of ys) [] ≡ with_all show (map of xs) []
    order_is_free xs ys stable =
        ap (with_all show (map of ys)) (sym no_entries) ∙ entries_are ys empty
        ∙ ap entries (same_map total (slice_cmp-IsAntisymmetric nat_cmp-IsAntisymmetric) (inserted ys empty) (inserted xs empty) (λ q.
        got q ys empty ∙ ap (λ l. last_of l (get (empty {X = Data} {R = key_cmp}) q)) (same_under q xs ys stable) ∙ sym (got q xs empty)))
        ∙ sym (ap (with_all show (map of xs)) (sym no_entries) ∙ entries_are xs empty)
