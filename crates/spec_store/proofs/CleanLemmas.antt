-- A store without its old tombstones is a later store.
use Rattle.std.proofs.Common.{◌≡◌, ◌↔◌, ℕ, ◌≤◌, ◌<◌, ◌-◌, List, [], ◌∷◌, Bool, true, false, cond, not, ◌&&◌, ◌||◌, nat_le, Option, Some, None, filter, refl, sym, ap, ◌∙◌, subst, arith, ◌⊎◌, inl, inr}
use Rattle.std.specs.List.{list_any}
use Rattle.std.proofs.lemmas.Bool.Decides.{leb_tells}
use Rattle.spec_data.specs.Rows.{Row, key, is_document}
use Rattle.spec_store.specs.Store.{row_at, Store, last, last_of, AreRising, AreApart, IsStore, TombstonesPast}
use Rattle.spec_store.specs.Later.{StillHas, MayBeCleaned, Later}
use Rattle.spec_store.specs.Cleaning.{is_old_tombstone, old_tombstones, without_tombstones, clean}
use Rattle.spec_store.proofs.StoreLemmas.{AreRising-filter, AreApart-filter, found_passing, passing_found, none_still, TombstonesPast-at, found_etag, both_true}
use Rattle.spec_store.proofs.StaleLemmas.{any_true}
use Rattle.spec_store.proofs.LaterLemmas.{StillHas-itself, Later-itself}

-- ONE ROW

not_true : (b : Bool) → not b ≡ true → b ≡ false
not_true true h = absurd cc
not_true false h = refl

le_of : (a b : ℕ) → nat_le a b ≡ true → a ≤ b
le_of a b h = elim (leb_tells a b) [ inl y ↦ y.1 | inr n ↦ absurd (let f = n.0 in let g : true ≡ false = sym h ∙ f in cc) ]

le_is : (a b : ℕ) → a ≤ b → nat_le a b ≡ true
le_is a b h = elim (leb_tells a b) [ inl y ↦ y.0 | inr n ↦ absurd (let f = n.1 in omega arith) ]

-- an old tombstone is no document, and not past the etag
pub old_means : (upto : ℕ) (r : Row) → is_old_tombstone upto r ≡ true → (is_document r ≡ false) × (r.etag ≤ upto)
old_means upto r h = let b = both_true (not (is_document r)) (nat_le r.etag upto) h in (not_true (is_document r) b.0, le_of r.etag upto b.1)

-- and what is not one is a document or past it
pub not_old : (upto : ℕ) (r : Row) → is_old_tombstone upto r ≡ false → is_document r ≡ false → upto < r.etag
not_old upto r h none = elim (leb_tells r.etag upto) [
  | inl y ↦ absurd (let e : is_old_tombstone upto r ≡ true = ap (λ b. not b && nat_le r.etag upto) none ∙ y.0 in let f : true ≡ false = sym e ∙ h in cc)
  | inr n ↦ n.1
]

pub past_stays : (upto : ℕ) (r : Row) → upto < r.etag → is_old_tombstone upto r ≡ false
past_stays upto r h = elim (is_old_tombstone upto r) as (λ b. is_old_tombstone upto r ≡ b → b ≡ false) [
  | true ↦ λ e. absurd (let f = (old_means upto r e).1 in omega arith)
  | false ↦ λ e. refl
] refl

pub document_stays : (upto : ℕ) (r : Row) → is_document r ≡ true → is_old_tombstone upto r ≡ false
document_stays upto r h = ap (λ b. not b && nat_le r.etag upto) h

abbrev stays : ℕ → Row → Bool
stays upto r = not (is_old_tombstone upto r)

-- ALL ROWS

-- the last row stays, if it is past the etag
last_stays : (upto a low : ℕ) (rows : List Row) → AreRising low rows → upto < last_of low rows → (upto < low → a ≡ low) → last_of a (without_tombstones upto rows) ≡ last_of low rows
last_stays upto a low [] up h same = same h
last_stays upto a low (x ∷ rows) up h same =
    elim (is_old_tombstone upto x) as (λ b. is_old_tombstone upto x ≡ b → last_of a (cond (not b) (x ∷ without_tombstones upto rows) (without_tombstones upto rows)) ≡ last_of x.etag rows) [
      | true ↦ λ e. last_stays upto a x.etag rows up.1 h (λ far. absurd (let f = (old_means upto x e).1 in omega arith))
      | false ↦ λ e. last_stays upto x.etag x.etag rows up.1 h (λ far. refl)
    ] refl

all_past : (upto : ℕ) (rows : List Row) → TombstonesPast upto (without_tombstones upto rows)
all_past upto [] = tt
all_past upto (x ∷ rows) = elim (is_old_tombstone upto x) as (λ b. is_old_tombstone upto x ≡ b → TombstonesPast upto (cond (not b) (x ∷ without_tombstones upto rows) (without_tombstones upto rows))) [
  | true ↦ λ e. all_past upto rows
  | false ↦ λ e. (not_old upto x e, all_past upto rows)
] refl

-- an old tombstone of the store shows that more is cleaned, and that this is below the last etag
pub cleans_more : (upto : ℕ) (S : Store) → IsStore S → upto ≤ last S - 1 → list_any (is_old_tombstone upto) S.rows ≡ true → (S.cleaned < upto) × (upto < last S)
cleans_more upto S s within any =
    let f = any_true (is_old_tombstone upto) S.rows s.apart any in
    let old = old_means upto f.1 f.3 in
    let past = TombstonesPast-at S.cleaned f.0 S.rows f.1 s.past f.2 old.0 in
    let up = old.1 in (omega arith, omega arith)

-- WHAT CLEANING LEAVES

-- a row is left exactly if it is no old tombstone
pub left-iff : (upto : ℕ) (S : Store) (q : List ℕ) (r : Row) → IsStore S
    → (row_at q (without_tombstones upto S.rows) ≡ Some r) ↔ ((row_at q S.rows ≡ Some r) × (is_old_tombstone upto r ≡ false))
left-iff upto S q r s = (
  λ h. let f = found_passing (stays upto) q S.rows r s.apart h in (f.0, not_true (is_old_tombstone upto r) f.1),
  λ h. passing_found (stays upto) q S.rows r s.apart h.0 (ap not h.1),
)

-- the store without the old tombstones, if there are some
abbrev pub cleaned_to : ℕ → Store → Store
cleaned_to upto S = record { rows = without_tombstones upto S.rows; cleaned = upto }

pub IsStore-cleaned : (upto : ℕ) (S : Store) → IsStore S → upto < last S → IsStore (cleaned_to upto S)
IsStore-cleaned upto S s below = record {
  rising = AreRising-filter 0 (λ r. not (is_old_tombstone upto r)) S.rows s.rising;
  apart = AreApart-filter (λ r. not (is_old_tombstone upto r)) S.rows s.apart;
  behind = let e = last_stays upto 0 0 S.rows s.rising below (λ far. refl) in omega arith;
  past = all_past upto S.rows;
}

pub Later-cleaned : (upto : ℕ) (S : Store) → IsStore S → S.cleaned < upto → upto < last S → Later S (cleaned_to upto S)
Later-cleaned upto S s more below = record {
  grown = let e = last_stays upto 0 0 S.rows s.rising below (λ far. refl) in omega arith;
  cleaned = omega arith;
  settled = λ q r h le. ((left-iff upto S q r s).0 h).0;
  kept = λ q r h. elim (is_old_tombstone upto r) as (λ b. is_old_tombstone upto r ≡ b → StillHas (without_tombstones upto S.rows) q r ⊎ MayBeCleaned S (cleaned_to upto S) r) [
    | true ↦ λ e. let old = old_means upto r e in inr (record { more = more; reached = old.1; deleted = inl old.0 })
    | false ↦ λ e. inl (StillHas-itself (without_tombstones upto S.rows) q r ((left-iff upto S q r s).1 (h, e)))
  ] refl;
}

-- CLEANING

-- what holds of a store that is cleaned, and of one of which nothing is cleaned, holds of what cleaning leaves
pub clean-cases : (upto : ℕ) (S : Store) (P : Store → Type 0) → IsStore S → upto ≤ last S - 1
    → (list_any (is_old_tombstone upto) S.rows ≡ true → S.cleaned < upto → upto < last S → P (cleaned_to upto S))
    → (list_any (is_old_tombstone upto) S.rows ≡ false → P S) → P (clean upto S)
clean-cases upto S P s within some none =
    elim (list_any (is_old_tombstone upto) S.rows) as (λ b. list_any (is_old_tombstone upto) S.rows ≡ b → P (cond b (cleaned_to upto S) S)) [
      | true ↦ λ e. let m = cleans_more upto S s within e in some e m.0 m.1
      | false ↦ λ e. none e
    ] refl

pub IsStore-clean : (upto : ℕ) (S : Store) → IsStore S → upto ≤ last S - 1 → IsStore (clean upto S)
IsStore-clean upto S s within = clean-cases upto S IsStore s within (λ any more below. IsStore-cleaned upto S s below) (λ none. s)

pub Later-clean : (upto : ℕ) (S : Store) → IsStore S → upto ≤ last S - 1 → Later S (clean upto S)
Later-clean upto S s within = clean-cases upto S (Later S) s within (λ any more below. Later-cleaned upto S s more below) (λ none. Later-itself S)

-- the row with the greatest etag stays
pub last-clean : (upto : ℕ) (S : Store) → IsStore S → upto ≤ last S - 1 → last (clean upto S) ≡ last S
last-clean upto S s within = clean-cases upto S (λ N. last N ≡ last S) s within (λ any more below. last_stays upto 0 0 S.rows s.rising below (λ far. refl)) (λ none. refl)

-- if no row is an old tombstone, none is left out
none-old : (upto : ℕ) (rows : List Row) → list_any (is_old_tombstone upto) rows ≡ false → without_tombstones upto rows ≡ rows
none-old upto [] none = refl
none-old upto (x ∷ rows) none = elim (is_old_tombstone upto x) as (λ b. b || list_any (is_old_tombstone upto) rows ≡ false → cond (not b) (x ∷ without_tombstones upto rows) (without_tombstones upto rows) ≡ x ∷ rows) [
  | true ↦ λ h. absurd cc
  | false ↦ λ h. ap (λ xs. x ∷ xs) (none-old upto rows h)
] none

-- the rows that are left are those without the old tombstones
pub clean-rows : (upto : ℕ) (S : Store) → (clean upto S).rows ≡ without_tombstones upto S.rows
clean-rows upto S = elim (list_any (is_old_tombstone upto) S.rows) as (λ b. list_any (is_old_tombstone upto) S.rows ≡ b → (let N : Store = cond b (cleaned_to upto S) S in N.rows) ≡ without_tombstones upto S.rows) [
  | true ↦ λ e. refl
  | false ↦ λ e. sym (none-old upto S.rows e)
] refl

-- exactly the old tombstones go
pub clean-iff : (upto : ℕ) (S : Store) (q : List ℕ) (r : Row) → IsStore S
    → (row_at q (clean upto S).rows ≡ Some r) ↔ ((row_at q S.rows ≡ Some r) × (is_old_tombstone upto r ≡ false))
clean-iff upto S q r s = subst (λ rows. (row_at q rows ≡ Some r) ↔ ((row_at q S.rows ≡ Some r) × (is_old_tombstone upto r ≡ false))) (sym (clean-rows upto S)) (left-iff upto S q r s)
