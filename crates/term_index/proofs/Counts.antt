-- How many terms meet a test, and how many ids these are.
use Rattle.std.proofs.Common.{◌≡◌, ℕ, suc, List, [], ◌∷◌, length, Bool, true, false, cond, ◌||◌, Option, Some, None, IfSome, Less, Equal, Greater, refl, sym, ap, ◌∙◌}
use Rattle.std.specs.Ordering.{is_lt, match_ordering}
use Rattle.std.specs.Map.{remove_entry}
use Rattle.std.specs.Option.{option_map_or}
use Rattle.std.specs.BTreeMap.{insert_entry}
use Rattle.spec_data.specs.Scalars.{Scalar}
use Rattle.raven_value.specs.ScalarView.{scalar_view}
use Rattle.raven_value.specs.declared.scalar.Scalar.{Scalar as Value}
use Rattle.reference_track.specs.Sets.{id_cmp, is_id, is_one_of, IsBelowAll, AreInOrder}
use Rattle.term_index.specs.Held.{Pairs, held, onto, AreApart, AreTerms, IsCountOf, chosen, chosen_onto}
use Rattle.term_index.specs.KeyView.{by_mark, term_of}
use Rattle.term_index.specs.declared.key.Key.{Key}
use Rattle.term_index.specs.declared.key.Key.TheVariants as k
use Rattle.term_index.proofs.Changes.{apart-onto}
use Rattle.term_index.proofs.Found.{chosen_members}
use Rattle.term_index.proofs.Ordered.{below_too, greater, less_of}

-- KEYS THAT ARE TERMS

pub terms-remove : (test : Key → Bool) (es : Pairs) → AreTerms es → AreTerms (remove_entry test es)
terms-remove test [] a = tt
terms-remove test (e ∷ es) a = elim (test e.0) as (λ b. AreTerms (cond b es (e ∷ remove_entry test es))) [ true ↦ a.1 | false ↦ (a.0, terms-remove test es a.1) ]

pub terms-insert : (v : Value) (x : List ℕ) (es : Pairs) → AreTerms es → AreTerms (insert_entry by_mark es (term_of v x) tt)
terms-insert v x [] a = (tt, tt)
terms-insert v x (e ∷ es) a =
    elim (by_mark (term_of v x) e.0) as (λ r. AreTerms (match_ordering r ((term_of v x, tt) ∷ e ∷ es) ((e.0, tt) ∷ es) (e ∷ insert_entry by_mark es (term_of v x) tt))) [ Less ↦ (tt, a) | Equal ↦ a | Greater ↦ (a.0, terms-insert v x es a.1) ]

-- IDS IN ORDER

abbrev Ids : Type 0
Ids = List (List ℕ)

abbrev put : List ℕ → Ids → Ids
put x [] = x ∷ []
put x (y ∷ ys) = cond (is_lt (id_cmp x y)) (x ∷ y ∷ ys) (y ∷ put x ys)

put_below : (a x : List ℕ) (ys : Ids) → id_cmp a x ≡ Less → IsBelowAll a ys → IsBelowAll a (put x ys)
put_below a x [] h b = (h, tt)
put_below a x (y ∷ ys) h b = elim (is_lt (id_cmp x y)) as (λ c. IsBelowAll a (cond c (x ∷ y ∷ ys) (y ∷ put x ys))) [ true ↦ (h, b) | false ↦ (b.0, put_below a x ys h b.1) ]

or_left : (a b : Bool) → a || b ≡ false → a ≡ false
or_left true b h = absurd cc
or_left false b h = refl

or_right : (a b : Bool) → a || b ≡ false → b ≡ false
or_right true b h = absurd cc
or_right false b h = h

put_order : (x : List ℕ) (ys : Ids) → is_one_of x ys ≡ false → AreInOrder ys → AreInOrder (put x ys)
put_order x [] new up = (tt, tt)
put_order x (y ∷ ys) new up =
    elim (is_lt (id_cmp x y)) as (λ c. is_lt (id_cmp x y) ≡ c → AreInOrder (cond c (x ∷ y ∷ ys) (y ∷ put x ys))) [
      | true ↦ λ h. ((less_of (id_cmp x y) h, below_too x y ys (less_of (id_cmp x y) h) up.0), up)
      | false ↦ λ h. (put_below y x ys (greater x y (id_cmp x y) refl h (or_left (is_id x y) _ new)) up.0, put_order x ys (or_right (is_id x y) _ new) up.1)
    ] refl

swap : (a b c : Bool) → a || (b || c) ≡ b || (a || c)
swap true true c = refl
swap true false c = refl
swap false b c = refl

put_members : (q x : List ℕ) (ys : Ids) → is_one_of q (put x ys) ≡ is_id q x || is_one_of q ys
put_members q x [] = refl
put_members q x (y ∷ ys) =
    elim (is_lt (id_cmp x y)) as (λ c. is_one_of q (cond c (x ∷ y ∷ ys) (y ∷ put x ys)) ≡ is_id q x || (is_id q y || is_one_of q ys)) [
      | true ↦ refl
      | false ↦ ap (λ b. is_id q y || b) (put_members q x ys) ∙ swap (is_id q y) (is_id q x) (is_one_of q ys)
    ]

put_length : (x : List ℕ) (ys : Ids) → length (put x ys) ≡ suc (length ys)
put_length x [] = refl
put_length x (y ∷ ys) = elim (is_lt (id_cmp x y)) as (λ c. length (cond c (x ∷ y ∷ ys) (y ∷ put x ys)) ≡ suc (suc (length ys))) [ true ↦ refl | false ↦ ap suc (put_length x ys) ]

abbrev sorted : Ids → Ids
sorted [] = []
sorted (x ∷ xs) = put x (sorted xs)

sorted_members : (q : List ℕ) (xs : Ids) → is_one_of q (sorted xs) ≡ is_one_of q xs
sorted_members q [] = refl
sorted_members q (x ∷ xs) = put_members q x (sorted xs) ∙ ap (λ b. is_id q x || b) (sorted_members q xs)

sorted_length : (xs : Ids) → length (sorted xs) ≡ length xs
sorted_length [] = refl
sorted_length (x ∷ xs) = put_length x (sorted xs) ∙ ap suc (sorted_length xs)

-- no id is there twice
abbrev AreOnce : Ids → Type 0
AreOnce [] = Unit {0}
AreOnce (x ∷ xs) = (is_one_of x xs ≡ false) × AreOnce xs

sorted_order : (xs : Ids) → AreOnce xs → AreInOrder (sorted xs)
sorted_order [] once = tt
sorted_order (x ∷ xs) once = put_order x (sorted xs) (sorted_members x xs ∙ once.0) (sorted_order xs once.1)

-- THE IDS OF THE TERMS THAT MEET A CONDITION

module _ (meets : Scalar → Bool) where
  once-onto : (key : Key) (es : Pairs) → AreApart (onto key (held es)) → AreOnce (chosen meets es) → AreOnce (chosen_onto meets key (chosen meets es))
  once-onto (k.At t) es a once =
      elim (meets (scalar_view t.value)) as (λ b. AreOnce (cond b (t.id ∷ chosen meets es) (chosen meets es))) [
        | true ↦ (chosen_members meets t.id es a.1 ∙ ap (λ o. option_map_or meets o false) a.0, once)
        | false ↦ once
      ]
  once-onto (k.Before v) es a once = once
  once-onto (k.After v) es a once = once
  once-onto k.End es a once = once

  chosen_once : (es : Pairs) → AreApart (held es) → AreOnce (chosen meets es)
  chosen_once [] a = tt
  chosen_once (e ∷ es) a = once-onto e.0 es a (chosen_once es (apart-onto e.0 (held es) a).1)

  -- what is known of their number is known of the ids
  pub count_known : (count : Option ℕ) (es : Pairs) (has : List ℕ → Bool) → AreApart (held es) → ((q : List ℕ) → is_one_of q (chosen meets es) ≡ has q) → IfSome count (λ n. n ≡ length (chosen meets es)) → IfSome count (IsCountOf has)
  count_known None es has a are h = h
  count_known (Some n) es has a are h =
      let ids = chosen meets es in
      record { ids = sorted ids; order = sorted_order ids (chosen_once es a); members = λ q. sorted_members q ids ∙ are q; count = sorted_length ids ∙ sym h }

pub no_ids : (has : List ℕ → Bool) → ((q : List ℕ) → false ≡ has q) → IsCountOf has 0
no_ids has none = record { ids = []; order = tt; members = none; count = refl }
