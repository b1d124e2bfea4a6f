-- The greatest etags of collections, up to a bound.
use Rattle.std.proofs.Common.{◌≡◌, ℕ, ◌<◌, ◌≤◌, ◌+◌, List, [], ◌∷◌, Bool, true, false, cond, ◌&&◌, ◌||◌, Option, Some, None, nat_lt, nat_le, max, filter, length, drop, get_or, refl, sym, ap, ◌∙◌, ◌⊎◌, inl, inr, subst, arith}
use Rattle.std.specs.List.{find}
use Rattle.std.proofs.lemmas.Bool.{ltb-false, le-leb, leb-true}
use Rattle.std.proofs.lemmas.List.{drop_all, drop_more}
use Rattle.spec_data.specs.Rows.{Row}
use Rattle.spec_store.specs.Store.{last_of, AreRising, Store}
use Rattle.doc_store.specs.Bounds.{AreRows}
use Rattle.spec_data.specs.Tables.{Scope, in_scope}
use Rattle.spec_store.specs.Stale.{up_to, newest}
use Rattle.spec_store.proofs.StoreLemmas.{AreRising-lower, AreRising-filter, last_of-rising}
use Rattle.doc_store.specs.Maps.{is_of, rows_of}
use Rattle.doc_store.proofs.FilterLemmas.{filter-swap, filter-both}

-- UP TO A BOUND

abbrev below : ℕ → Row → Bool
below most r = nat_le r.etag most

pub last-all : (bound : Option ℕ) (rows : List Row) → bound ≡ None → last_of 0 rows ≡ last_of 0 (filter (λ r. up_to bound r.etag) rows)
last-all bound rows none = ap (last_of 0) (every rows) ∙ ap (λ b. last_of 0 (filter (λ r. up_to b r.etag) rows)) (sym none)
  where
    every : (rows : List Row) → rows ≡ filter (λ r. up_to None r.etag) rows
    every [] = refl
    every (r ∷ rows) = ap (λ xs. r ∷ xs) (every rows)

-- a bound that the last keeps is kept by all
all_below : (most low : ℕ) (rows : List Row) → AreRising low rows → last_of low rows ≤ most → filter (below most) rows ≡ rows
all_below most low [] up h = refl
all_below most low (r ∷ rows) up h =
    ap (λ b. cond b (r ∷ filter (below most) rows) (filter (below most) rows)) (le-leb r.etag most (let a = last_of-rising r.etag rows up.1 in omega arith))
    ∙ ap (λ xs. r ∷ xs) (all_below most r.etag rows up.1 h)

pub last-within : (bound : Option ℕ) (most : ℕ) (rows : List Row) → AreRising 0 rows → bound ≡ Some most → last_of 0 rows ≤ most → last_of 0 rows ≡ last_of 0 (filter (λ r. up_to bound r.etag) rows)
last-within bound most rows up is le =
    ap (last_of 0) (sym (all_below most 0 rows up le)) ∙ ap (λ b. last_of 0 (filter (λ r. up_to b r.etag) rows)) (sym is)

-- HALVING

-- the greatest etag up to a bound
abbrev pub greatest : ℕ → List Row → ℕ
greatest most rows = last_of 0 (filter (λ r. nat_le r.etag most) rows)

last_below-bound : (most low : ℕ) (rows : List Row) → low ≤ most → last_of low (filter (below most) rows) ≤ most
last_below-bound most low [] le = le
last_below-bound most low (r ∷ rows) le =
    elim (nat_le r.etag most) as (λ b. nat_le r.etag most ≡ b → last_of low (cond b (r ∷ filter (below most) rows) (filter (below most) rows)) ≤ most) [
      | true ↦ λ e. last_below-bound most r.etag rows (leb-true r.etag most e)
      | false ↦ λ e. last_below-bound most low rows le
    ] refl

pub greatest-bound : (most : ℕ) (rows : List Row) → greatest most rows ≤ most
greatest-bound most rows = last_below-bound most 0 rows (omega arith)

-- a row that is found within the bound goes no further than the greatest
found_within : (p : Row → Bool) (most low : ℕ) (rows : List Row) (x : Row) → AreRising low rows → find p rows ≡ Some x → x.etag ≤ most → x.etag ≤ last_of low (filter (below most) rows)
found_within p most low [] x up h le = absurd cc
found_within p most low (r ∷ rows) x up h le =
    elim (p r) as (λ b. cond b (Some r) (find p rows) ≡ Some x → x.etag ≤ last_of low (filter (below most) (r ∷ rows))) [
      | true ↦ λ is.
          let same : r ≡ x = cc in
          let here : nat_le r.etag most ≡ true = le-leb r.etag most (subst (λ (y : Row). y.etag ≤ most) (sym same) le) in
          let to : r.etag ≤ last_of r.etag (filter (below most) rows) = last_of-rising r.etag (filter (below most) rows) (AreRising-filter r.etag (below most) rows up.1) in
          subst (λ b. x.etag ≤ last_of low (cond b (r ∷ filter (below most) rows) (filter (below most) rows))) (sym here)
          (subst (λ (y : Row). y.etag ≤ last_of r.etag (filter (below most) rows)) same to)
      | false ↦ λ is.
          let rest = found_within p most r.etag rows x up.1 is le in
          elim (nat_le r.etag most) as (λ b. x.etag ≤ last_of low (cond b (r ∷ filter (below most) rows) (filter (below most) rows))) [
            | true ↦ rest
            | false ↦ found_within p most low rows x (AreRising-lower low r.etag rows (let a = up.0 in omega arith) up.1) is le
          ]
    ] h

pub greatest-found : (middle most : ℕ) (rows : List Row) (x : Row) → AreRising 0 rows → find (λ r. nat_lt middle r.etag) rows ≡ Some x → x.etag ≤ most → x.etag ≤ greatest most rows
greatest-found middle most rows x up is le = found_within (λ r. nat_lt middle r.etag) most 0 rows x up is le

-- without an etag past the middle the greatest is not past it
none_past : (middle most low : ℕ) (rows : List Row) → low ≤ middle → find (λ r. nat_lt middle r.etag) rows ≡ None → last_of low (filter (below most) rows) ≤ middle
none_past middle most low [] le h = le
none_past middle most low (r ∷ rows) le h =
    elim (nat_lt middle r.etag) as (λ b. nat_lt middle r.etag ≡ b → cond b (Some r) (find (λ x. nat_lt middle x.etag) rows) ≡ None → last_of low (cond (nat_le r.etag most) (r ∷ filter (below most) rows) (filter (below most) rows)) ≤ middle) [
      | true ↦ λ e is. absurd cc
      | false ↦ λ e is.
          elim (nat_le r.etag most) as (λ b. last_of low (cond b (r ∷ filter (below most) rows) (filter (below most) rows)) ≤ middle) [
            | true ↦ none_past middle most r.etag rows (ltb-false middle r.etag e) is
            | false ↦ none_past middle most low rows le is
          ]
    ] refl h

pub greatest-none : (middle most : ℕ) (rows : List Row) → find (λ r. nat_lt middle r.etag) rows ≡ None → greatest most rows ≤ middle
greatest-none middle most rows is = none_past middle most 0 rows (omega arith) is

-- what is past a row, or is none
after_row : (low : ℕ) (rows : List Row) (p : Row → Bool) (x : Row) → AreRising x.etag rows → low ≤ x.etag → (last_of low (filter p rows) ≡ low) ⊎ (x.etag ≤ last_of low (filter p rows))
after_row low [] p x up le = inl refl
after_row low (r ∷ rows) p x up le =
    elim (p r) as (λ b. (last_of low (cond b (r ∷ filter p rows) (filter p rows)) ≡ low) ⊎ (x.etag ≤ last_of low (cond b (r ∷ filter p rows) (filter p rows)))) [
      | true ↦ inr (let a = up.0 in let b = last_of-rising r.etag (filter p rows) (AreRising-filter r.etag p rows up.1) in omega arith)
      | false ↦ after_row low rows p x (AreRising-lower x.etag r.etag rows (let a = up.0 in omega arith) up.1) le
    ]

-- no etag is between the middle and the first past it
first_past : (middle most low : ℕ) (rows : List Row) (x : Row) → AreRising low rows → low ≤ middle → find (λ r. nat_lt middle r.etag) rows ≡ Some x
    → (last_of low (filter (below most) rows) ≤ middle) ⊎ (x.etag ≤ last_of low (filter (below most) rows))
first_past middle most low [] x up le h = absurd cc
first_past middle most low (r ∷ rows) x up le h =
    elim (nat_lt middle r.etag) as (λ b. nat_lt middle r.etag ≡ b → cond b (Some r) (find (λ y. nat_lt middle y.etag) rows) ≡ Some x
    → (last_of low (cond (nat_le r.etag most) (r ∷ filter (below most) rows) (filter (below most) rows)) ≤ middle) ⊎ (x.etag ≤ last_of low (cond (nat_le r.etag most) (r ∷ filter (below most) rows) (filter (below most) rows)))) [
      | true ↦ λ e is.
          let same : r ≡ x = cc in
          subst (λ (y : Row). (last_of low (cond (nat_le r.etag most) (r ∷ filter (below most) rows) (filter (below most) rows)) ≤ middle) ⊎ (y.etag ≤ last_of low (cond (nat_le r.etag most) (r ∷ filter (below most) rows) (filter (below most) rows)))) same
          (elim (nat_le r.etag most) as (λ b. (last_of low (cond b (r ∷ filter (below most) rows) (filter (below most) rows)) ≤ middle) ⊎ (r.etag ≤ last_of low (cond b (r ∷ filter (below most) rows) (filter (below most) rows)))) [
            | true ↦ inr (last_of-rising r.etag (filter (below most) rows) (AreRising-filter r.etag (below most) rows up.1))
            | false ↦ elim (after_row low rows (below most) r up.1 (let a = up.0 in omega arith)) [ inl a ↦ inl (omega arith) | inr b ↦ inr b ]
          ])
      | false ↦ λ e is.
          elim (nat_le r.etag most) as (λ b. (last_of low (cond b (r ∷ filter (below most) rows) (filter (below most) rows)) ≤ middle) ⊎ (x.etag ≤ last_of low (cond b (r ∷ filter (below most) rows) (filter (below most) rows)))) [
            | true ↦ first_past middle most r.etag rows x up.1 (ltb-false middle r.etag e) is
            | false ↦ first_past middle most low rows x (AreRising-lower low r.etag rows (let a = up.0 in omega arith) up.1) le is
          ]
    ] refl h

pub greatest-far : (middle most high : ℕ) (rows : List Row) (x : Row) → AreRising 0 rows → find (λ r. nat_lt middle r.etag) rows ≡ Some x → high < x.etag → greatest most rows ≤ high
    → greatest most rows ≤ middle
greatest-far middle most high rows x up is far le =
    elim (first_past middle most 0 rows x up (omega arith) is) [ inl a ↦ a | inr b ↦ absurd (omega arith) ]

-- OF COLLECTIONS

-- where rows begin to be counted from shows only where there are none
begun : (a low : ℕ) (rows : List Row) → (last_of a rows ≡ last_of low rows) ⊎ ((last_of a rows ≡ a) × (last_of low rows ≡ low))
begun a low [] = inr (refl, refl)
begun a low (r ∷ rows) = inl refl

raised_right : (a low m : ℕ) (rows : List Row) → low ≤ a → a ≤ m → max m (last_of a rows) ≡ max m (last_of low rows)
raised_right a low m rows le ge = elim (begun a low rows) [ inl e ↦ ap (max m) e | inr e ↦ let f = e.0 in let g = e.1 in omega arith ]

raised_left : (a low m : ℕ) (rows : List Row) → low ≤ a → a ≤ m → max (last_of a rows) m ≡ max (last_of low rows) m
raised_left a low m rows le ge = elim (begun a low rows) [ inl e ↦ ap (λ k. max k m) e | inr e ↦ let f = e.0 in let g = e.1 in omega arith ]

-- the last of those of either kind
last_of-either : (low : ℕ) (p q : Row → Bool) (rows : List Row) → AreRising low rows → last_of low (filter (λ x. p x || q x) rows) ≡ max (last_of low (filter p rows)) (last_of low (filter q rows))
last_of-either low p q [] up = omega arith
last_of-either low p q (r ∷ rows) up =
    let after : last_of r.etag (filter (λ x. p x || q x) rows) ≡ max (last_of r.etag (filter p rows)) (last_of r.etag (filter q rows)) = last_of-either r.etag p q rows up.1 in
    let rest : last_of low (filter (λ x. p x || q x) rows) ≡ max (last_of low (filter p rows)) (last_of low (filter q rows)) = last_of-either low p q rows (AreRising-lower low r.etag rows before up.1) in
    elim (p r) as (λ a. last_of low (cond (a || q r) (r ∷ filter (λ x. p x || q x) rows) (filter (λ x. p x || q x) rows)) ≡ max (last_of low (cond a (r ∷ filter p rows) (filter p rows))) (last_of low (cond (q r) (r ∷ filter q rows) (filter q rows)))) [
      | true ↦ elim (q r) as (λ b. last_of r.etag (filter (λ x. p x || q x) rows) ≡ max (last_of r.etag (filter p rows)) (last_of low (cond b (r ∷ filter q rows) (filter q rows)))) [
        | true ↦ after
        | false ↦ after ∙ raised_right r.etag low _ (filter q rows) before (last_of-rising r.etag (filter p rows) (AreRising-filter r.etag p rows up.1))
      ]
      | false ↦ elim (q r) as (λ b. last_of low (cond b (r ∷ filter (λ x. p x || q x) rows) (filter (λ x. p x || q x) rows)) ≡ max (last_of low (filter p rows)) (last_of low (cond b (r ∷ filter q rows) (filter q rows)))) [
        | true ↦ after ∙ raised_left r.etag low _ (filter p rows) before (last_of-rising r.etag (filter q rows) (AreRising-filter r.etag q rows up.1))
        | false ↦ rest
      ]
    ]
  where
    before : low ≤ r.etag
    before = let a = up.0 in omega arith

-- the test of a collection or scope, and of the bound
last-and : (p u : Row → Bool) (rows : List Row) → last_of 0 (filter p (filter u rows)) ≡ last_of 0 (filter (λ r. p r && u r) rows)
last-and p u rows = ap (last_of 0) (filter-swap p u rows ∙ filter-both p u rows)

-- the greatest etag of a collection up to a bound
abbrev pub newest_in : Store → Option ℕ → List ℕ → ℕ
newest_in S upto c = last_of 0 (filter (λ r. is_of c r && up_to upto r.etag) S.rows)

newest-more : (S : Store) (c : List ℕ) (scope : Scope) (upto : Option ℕ) → AreRows S.rows → newest S (c ∷ scope) upto ≡ max (newest_in S upto c) (newest S scope upto)
newest-more S c scope upto s =
    let both : last_of 0 (filter (in_scope (c ∷ scope)) (filter u S.rows)) ≡ max (last_of 0 (filter (is_of c) (filter u S.rows))) (last_of 0 (filter (in_scope scope) (filter u S.rows))) =
    last_of-either 0 (is_of c) (in_scope scope) (filter u S.rows) (AreRising-filter 0 u S.rows s.rising) in
    sym (last-and (in_scope (c ∷ scope)) u S.rows) ∙ both
    ∙ ap (λ n. max n (last_of 0 (filter (in_scope scope) (filter u S.rows)))) (last-and (is_of c) u S.rows)
    ∙ ap (max (newest_in S upto c)) (last-and (in_scope scope) u S.rows)
  where
    u : Row → Bool
    u r = up_to upto r.etag

none_newest : (upto : Option ℕ) (rows : List Row) → last_of 0 (filter (λ r. in_scope [] r && up_to upto r.etag) rows) ≡ 0
none_newest upto [] = refl
none_newest upto (r ∷ rows) = none_newest upto rows

pub newest_in_map : (collections : List (List ℕ × List Row)) (S : Store) (c : List ℕ) (upto : Option ℕ) → rows_of collections c ≡ filter (is_of c) S.rows
    → last_of 0 (filter (λ r. up_to upto r.etag) (rows_of collections c)) ≡ newest_in S upto c
newest_in_map collections S c upto shows =
    ap (λ rows. last_of 0 (filter (λ r. up_to upto r.etag) rows)) shows ∙ ap (last_of 0) (filter-both (is_of c) (λ r. up_to upto r.etag) S.rows)

-- after one collection more
pub newest_step : (S : Store) (scope : Scope) (upto : Option ℕ) (i : ℕ) (c : List ℕ) (n own next : ℕ) → AreRows S.rows → i < length scope → get_or scope i c ≡ c
    → own ≡ newest_in S upto c → next ≡ max n own
    → max n (newest S (drop i scope) upto) ≡ newest S scope upto → max next (newest S (drop (i + 1) scope) upto) ≡ newest S scope upto
newest_step S scope upto i c n own next s lt is found made was =
    let here : newest S (drop i scope) upto ≡ max (newest_in S upto c) (newest S (drop (i + 1) scope) upto) =
    ap (λ cs. newest S cs upto) (drop_more scope i c lt ∙ ap (λ d. d ∷ drop (i + 1) scope) is) ∙ newest-more S c (drop (i + 1) scope) upto s in
    omega arith

pub newest_last : (S : Store) (scope : Scope) (upto : Option ℕ) (i n : ℕ) → length scope ≤ i → max n (newest S (drop i scope) upto) ≡ newest S scope upto → n ≡ newest S scope upto
newest_last S scope upto i n le was = let none : newest S (drop i scope) upto ≡ 0 = ap (λ cs. newest S cs upto) (drop_all i scope le) ∙ none_newest upto S.rows in omega arith
