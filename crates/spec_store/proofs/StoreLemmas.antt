-- How a row is found in a store, and how a store grows.
use Rattle.std.proofs.Common.{◌≡◌, ℕ, ◌<◌, ◌≤◌, List, [], ◌∷◌, ◌++◌, Bool, true, false, cond, not, ◌&&◌, ◌||◌, Option, Some, None, filter, refl, sym, ap, ◌∙◌, subst, arith}
use Rattle.std.specs.Option.{option_or, option_and_then}
use Rattle.std.proofs.lemmas.List.Folds.{find-append}
use Rattle.std.specs.Cmp.Lexicographic.{nat_list_eq_equiv}
use Rattle.std.proofs.lemmas.Slice.Eq.{bytes_eq-Decides}
use Rattle.spec_data.specs.Folding.{same_key}
use Rattle.spec_data.specs.Rows.{Row, key, is_document}
use Rattle.spec_store.specs.Store.{row_at, put, last_of, AreRising, AreApart, TombstonesPast, IsStore, store_of}
use Rattle.std.specs.List.{list_any}

-- OPTIONS AND TESTS

pub same_row : (a b : Row) → Some a ≡ Some b → a ≡ b
same_row a b h = cc

pub both_true : (a b : Bool) → a && b ≡ true → (a ≡ true) × (b ≡ true)
both_true true b h = (refl, h)
both_true false b h = absurd cc

pub either_false : (a b : Bool) → a || b ≡ false → (a ≡ false) × (b ≡ false)
either_false true b h = absurd cc
either_false false b h = (refl, h)

-- KEYS AND ROWS

-- a key is the same as itself, and as no other
pub same_itself : (q : List ℕ) → same_key q q ≡ true
same_itself q = (bytes_eq-Decides q q).1 refl

pub same_means : (q k : List ℕ) → same_key q k ≡ true → q ≡ k
same_means q k h = (bytes_eq-Decides q k).0 h

-- the row that is found has the key
pub found_key : (q : List ℕ) (rows : List Row) (r : Row) → row_at q rows ≡ Some r → q ≡ key r
found_key q [] r h = cc
found_key q (x ∷ rows) r h =
    elim (same_key q (key x)) as (λ b. same_key q (key x) ≡ b → cond b (Some x) (row_at q rows) ≡ Some r → q ≡ key r) [
      | true ↦ λ e is. let t = same_means q (key x) e in let same : x ≡ r = cc in t ∙ ap key same
      | false ↦ λ e is. found_key q rows r is
    ] refl h

-- of two tests that cannot both hold, either may come first
pub swapped : {A : Type 0} (a b : Bool) (x y z : A) → (a ≡ true → b ≡ true → ⊥) → cond b y (cond a x z) ≡ cond a x (cond b y z)
swapped true true x y z apart = absurd (apart refl refl)
swapped true false x y z apart = refl
swapped false b x y z apart = refl

pub shadowed : {A : Type 0} (a b : Bool) (x y z : A) → (b ≡ true → a ≡ true) → cond a x z ≡ cond a x (cond b y z)
shadowed true b x y z same = refl
shadowed false true x y z same = absurd (let e = same refl in cc)
shadowed false false x y z same = refl

-- of two keys that differ, a key is the same as at most one
pub not_both : (q a b : List ℕ) → same_key a b ≡ false → same_key q a ≡ true → same_key q b ≡ true → ⊥
not_both q a b apart h g =
    let same : a ≡ b = sym (same_means q a h) ∙ same_means q b g in
    let t = subst (λ k. same_key a k ≡ true) same (same_itself a) in cc

pub row_at-put : (q : List ℕ) (r : Row) (rows : List Row) → row_at q (put r rows) ≡ cond (same_key q (key r)) (Some r) (row_at q rows)
row_at-put q r [] = refl
row_at-put q r (x ∷ rows) =
    elim (same_key (key r) (key x)) as (λ b. same_key (key r) (key x) ≡ b → row_at q (cond (not b) (x ∷ filter (λ y. not (same_key (key r) (key y))) rows) (filter (λ y. not (same_key (key r) (key y))) rows) ++ r ∷ []) ≡ cond (same_key q (key r)) (Some r) (cond (same_key q (key x)) (Some x) (row_at q rows))) [
      | true ↦ λ e. row_at-put q r rows ∙ shadowed (same_key q (key r)) (same_key q (key x)) (Some r) (Some x) (row_at q rows) (λ h. subst (λ k. same_key q k ≡ true) (sym (same_means _ _ e)) h)
      | false ↦ λ e. ap (cond (same_key q (key x)) (Some x)) (row_at-put q r rows) ∙ swapped (same_key q (key r)) (same_key q (key x)) (Some r) (Some x) (row_at q rows) (not_both q (key r) (key x) e)
    ] refl

pub AreApart-put : (r : Row) (rows : List Row) → AreApart rows → AreApart (put r rows)
AreApart-put r [] h = (refl, tt)
AreApart-put r (x ∷ rows) h =
    elim (same_key (key r) (key x)) as (λ b. same_key (key r) (key x) ≡ b → AreApart (cond (not b) (x ∷ filter (λ y. not (same_key (key r) (key y))) rows) (filter (λ y. not (same_key (key r) (key y))) rows) ++ r ∷ [])) [
      | true ↦ λ e. AreApart-put r rows h.1
      | false ↦ λ e. (row_at-put (key x) r rows ∙ ap (λ b. cond b (Some r) (row_at (key x) rows)) (nat_list_eq_equiv.symm (key x) (key r) ∙ e) ∙ h.0, AreApart-put r rows h.1)
    ] refl

pub AreRising-lower : (low high : ℕ) (rows : List Row) → low ≤ high → AreRising high rows → AreRising low rows
AreRising-lower low high [] h up = tt
AreRising-lower low high (x ∷ rows) h up = (let a = up.0 in omega arith, up.1)

pub last_of-put : (low : ℕ) (r : Row) (rows : List Row) → last_of low (put r rows) ≡ r.etag
last_of-put low r [] = refl
last_of-put low r (x ∷ rows) =
    elim (same_key (key r) (key x)) as (λ b. last_of low (cond (not b) (x ∷ filter (λ y. not (same_key (key r) (key y))) rows) (filter (λ y. not (same_key (key r) (key y))) rows) ++ r ∷ []) ≡ r.etag) [
      | true ↦ last_of-put low r rows
      | false ↦ last_of-put x.etag r rows
    ]

pub AreRising-put : (low : ℕ) (r : Row) (rows : List Row) → AreRising low rows → last_of low rows < r.etag → AreRising low (put r rows)
AreRising-put low r [] up h = (h, tt)
AreRising-put low r (x ∷ rows) up h =
    elim (same_key (key r) (key x)) as (λ b. AreRising low (cond (not b) (x ∷ filter (λ y. not (same_key (key r) (key y))) rows) (filter (λ y. not (same_key (key r) (key y))) rows) ++ r ∷ [])) [
      | true ↦ AreRising-lower low x.etag (put r rows) (let a = up.0 in omega arith) (AreRising-put x.etag r rows up.1 h)
      | false ↦ (up.0, AreRising-put x.etag r rows up.1 h)
    ]

pub last_of-rising : (low : ℕ) (rows : List Row) → AreRising low rows → low ≤ last_of low rows
last_of-rising low [] up = omega arith
last_of-rising low (x ∷ rows) up = let a = up.0 in let b = last_of-rising x.etag rows up.1 in omega arith

-- the etag of a row that is found is above `low` and at most the last
pub found_etag : (low : ℕ) (q : List ℕ) (rows : List Row) (r : Row) → AreRising low rows → row_at q rows ≡ Some r → (low < r.etag) × (r.etag ≤ last_of low rows)
found_etag low q [] r up h = absurd cc
found_etag low q (x ∷ rows) r up h =
    elim (same_key q (key x)) as (λ b. cond b (Some x) (row_at q rows) ≡ Some r → (low < r.etag) × (r.etag ≤ last_of x.etag rows)) [
      | true ↦ λ is. let same : x ≡ r = cc in subst (λ (y : Row). (low < y.etag) × (y.etag ≤ last_of x.etag rows)) same (up.0, last_of-rising x.etag rows up.1)
      | false ↦ λ is. let rest = found_etag x.etag q rows r up.1 is in (let a = up.0 in let b = rest.0 in omega arith, rest.1)
    ] h

pub row_at-append : (q : List ℕ) (xs ys : List Row) → row_at q (xs ++ ys) ≡ option_or (row_at q xs) (row_at q ys)
row_at-append q xs ys = find-append (λ r. same_key q (key r)) xs ys

abbrev pub only_if : (Row → Bool) → Row → Option Row
only_if p r = cond (p r) (Some r) None

-- a filter keeps the row of an id if that row passes
pub row_at-filter : (p : Row → Bool) (q : List ℕ) (rows : List Row) → AreApart rows → row_at q (filter p rows) ≡ option_and_then (only_if p) (row_at q rows)
row_at-filter p q [] h = refl
row_at-filter p q (x ∷ rows) h =
    elim (same_key q (key x)) as (λ b. same_key q (key x) ≡ b → row_at q (cond (p x) (x ∷ filter p rows) (filter p rows)) ≡ option_and_then (only_if p) (cond b (Some x) (row_at q rows))) [
      | true ↦ λ e. elim (p x) as (λ c. row_at q (cond c (x ∷ filter p rows) (filter p rows)) ≡ cond c (Some x) None) [
        | true ↦ ap (λ b. cond b (Some x) (row_at q (filter p rows))) e
        | false ↦ row_at-filter p q rows h.1 ∙ ap (option_and_then (only_if p)) (subst (λ k. row_at k rows ≡ None) (sym (same_means q (key x) e)) h.0)
      ]
      | false ↦ λ e. elim (p x) as (λ c. row_at q (cond c (x ∷ filter p rows) (filter p rows)) ≡ option_and_then (only_if p) (row_at q rows)) [
        | true ↦ ap (λ b. cond b (Some x) (row_at q (filter p rows))) e ∙ row_at-filter p q rows h.1
        | false ↦ row_at-filter p q rows h.1
      ]
    ] refl

passes : (p : Row → Bool) (x r : Row) → only_if p x ≡ Some r → (x ≡ r) × (p r ≡ true)
passes p x r h =
    elim (p x) as (λ b. p x ≡ b → cond b (Some x) None ≡ Some r → (x ≡ r) × (p r ≡ true)) [
      | true ↦ λ e is. let same : x ≡ r = cc in (same, subst (λ y. p y ≡ true) same e)
      | false ↦ λ e is. absurd cc
    ] refl h

-- what is found among those that pass is found among all, and passes
pub found_passing : (p : Row → Bool) (q : List ℕ) (rows : List Row) (r : Row) → AreApart rows → row_at q (filter p rows) ≡ Some r → (row_at q rows ≡ Some r) × (p r ≡ true)
found_passing p q rows r h is =
    elim (row_at q rows) as (λ o. option_and_then (only_if p) o ≡ Some r → (o ≡ Some r) × (p r ≡ true)) [
      | None ↦ λ f. absurd cc
      | Some x ↦ λ f. let g = passes p x r f in (ap Some g.0, g.1)
    ] (sym (row_at-filter p q rows h) ∙ is)

pub passing_found : (p : Row → Bool) (q : List ℕ) (rows : List Row) (r : Row) → AreApart rows → row_at q rows ≡ Some r → p r ≡ true → row_at q (filter p rows) ≡ Some r
passing_found p q rows r h is pass = row_at-filter p q rows h ∙ ap (option_and_then (only_if p)) is ∙ ap (λ b. cond b (Some r) None) pass

pub none_still : (p : Row → Bool) (q : List ℕ) (rows : List Row) → AreApart rows → row_at q rows ≡ None → row_at q (filter p rows) ≡ None
none_still p q rows h none = row_at-filter p q rows h ∙ ap (option_and_then (only_if p)) none

pub AreApart-filter : (p : Row → Bool) (rows : List Row) → AreApart rows → AreApart (filter p rows)
AreApart-filter p [] h = tt
AreApart-filter p (x ∷ rows) h =
    elim (p x) as (λ b. AreApart (cond b (x ∷ filter p rows) (filter p rows))) [
      | true ↦ (none_still p (key x) rows h.1 h.0, AreApart-filter p rows h.1)
      | false ↦ AreApart-filter p rows h.1
    ]

front_none : (q : List ℕ) (xs ys : List Row) → row_at q (xs ++ ys) ≡ None → row_at q xs ≡ None
front_none q xs ys h =
    elim (row_at q xs) as (λ o. option_or o (row_at q ys) ≡ None → o ≡ None) [ None ↦ λ e. refl | Some x ↦ λ e. cc ] (sym (row_at-append q xs ys) ∙ h)

pub AreApart-front : (xs ys : List Row) → AreApart (xs ++ ys) → AreApart xs
AreApart-front [] ys h = tt
AreApart-front (x ∷ xs) ys h = (front_none (key x) xs ys h.0, AreApart-front xs ys h.1)

pub AreRising-filter : (low : ℕ) (p : Row → Bool) (rows : List Row) → AreRising low rows → AreRising low (filter p rows)
AreRising-filter low p [] up = tt
AreRising-filter low p (x ∷ rows) up =
    elim (p x) as (λ b. AreRising low (cond b (x ∷ filter p rows) (filter p rows))) [
      | true ↦ (up.0, AreRising-filter x.etag p rows up.1)
      | false ↦ AreRising-filter low p rows (AreRising-lower low x.etag rows (let a = up.0 in omega arith) up.1)
    ]

pub AreRising-front : (low : ℕ) (xs ys : List Row) → AreRising low (xs ++ ys) → AreRising low xs
AreRising-front low [] ys up = tt
AreRising-front low (x ∷ xs) ys up = (up.0, AreRising-front x.etag xs ys up.1)

pub AreRising-back : (low : ℕ) (xs ys : List Row) → AreRising low (xs ++ ys) → AreRising (last_of low xs) ys
AreRising-back low [] ys up = up
AreRising-back low (x ∷ xs) ys up = AreRising-back x.etag xs ys up.1

pub last_of-append : (low : ℕ) (xs ys : List Row) → last_of low (xs ++ ys) ≡ last_of (last_of low xs) ys
last_of-append low [] ys = refl
last_of-append low (x ∷ xs) ys = last_of-append x.etag xs ys

pub last_of-filter : (a low : ℕ) (p : Row → Bool) (rows : List Row) → AreRising low rows → a ≤ last_of low rows → last_of a (filter p rows) ≤ last_of low rows
last_of-filter a low p [] up h = h
last_of-filter a low p (x ∷ rows) up h =
    elim (p x) as (λ b. last_of a (cond b (x ∷ filter p rows) (filter p rows)) ≤ last_of x.etag rows) [
      | true ↦ last_of-filter x.etag x.etag p rows up.1 (last_of-rising x.etag rows up.1)
      | false ↦ last_of-filter a x.etag p rows up.1 h
    ]

pub any_false : (p : Row → Bool) (q : List ℕ) (rows : List Row) (r : Row) → list_any p rows ≡ false → row_at q rows ≡ Some r → p r ≡ false
any_false p q [] r h g = absurd cc
any_false p q (x ∷ rows) r h g =
    elim (same_key q (key x)) as (λ b. cond b (Some x) (row_at q rows) ≡ Some r → p r ≡ false) [
      | true ↦ λ is. subst (λ y. p y ≡ false) (same_row x r is) (either_false (p x) (list_any p rows) h).0
      | false ↦ λ is. any_false p q rows r (either_false (p x) (list_any p rows) h).1 is
    ] g

-- TOMBSTONES PAST AN ETAG

pub TombstonesPast-at : (e : ℕ) (q : List ℕ) (rows : List Row) (r : Row) → TombstonesPast e rows → row_at q rows ≡ Some r → is_document r ≡ false → e < r.etag
TombstonesPast-at e q [] r h is = absurd cc
TombstonesPast-at e q (x ∷ rows) r h is =
    elim (same_key q (key x)) as (λ b. cond b (Some x) (row_at q rows) ≡ Some r → is_document r ≡ false → e < r.etag) [
      | true ↦ λ at. subst (λ (y : Row). is_document y ≡ false → e < y.etag) (same_row x r at) h.0
      | false ↦ λ at. TombstonesPast-at e q rows r h.1 at
    ] is

pub TombstonesPast-put : (e : ℕ) (r : Row) (rows : List Row) → TombstonesPast e rows → e < r.etag → TombstonesPast e (put r rows)
TombstonesPast-put e r [] h newer = ((λ is. newer), tt)
TombstonesPast-put e r (x ∷ rows) h newer =
    elim (same_key (key r) (key x)) as (λ b. TombstonesPast e (cond (not b) (x ∷ filter (λ y. not (same_key (key r) (key y))) rows) (filter (λ y. not (same_key (key r) (key y))) rows) ++ r ∷ [])) [
      | true ↦ TombstonesPast-put e r rows h.1 newer
      | false ↦ (h.0, TombstonesPast-put e r rows h.1 newer)
    ]

pub TombstonesPast-rising : (e low : ℕ) (rows : List Row) → AreRising low rows → e ≤ low → TombstonesPast e rows
TombstonesPast-rising e low [] up h = tt
TombstonesPast-rising e low (x ∷ rows) up h = ((λ is. let a = up.0 in omega arith), TombstonesPast-rising e x.etag rows up.1 (let a = up.0 in omega arith))

-- rows of which nothing was cleaned are a store
pub IsStore-of : (rows : List Row) → AreRising 0 rows → AreApart rows → IsStore (store_of rows)
IsStore-of rows up apart = record { rising = up; apart = apart; behind = omega arith; past = TombstonesPast-rising 0 0 rows up (omega arith) }
