-- Staleness is decided by the newest row, and by whether some row was not seen.
use Rattle.std.proofs.Common.{◌≡◌, ℕ, ◌≤◌, List, [], ◌∷◌, Bool, true, false, cond, ◌&&◌, ◌||◌, nat_lt, Option, Some, filter, refl, sym, ap, ◌∙◌, subst, arith, ◌↔◌}
use Rattle.std.specs.List.{list_any}
use Rattle.std.proofs.lemmas.Bool.{ltb-false, ltb-true, lt-ltb, le-ltb}
use Rattle.spec_data.specs.Folding.{same_key}
use Rattle.spec_data.specs.Rows.{Row, key}
use Rattle.spec_store.specs.Store.{row_at, last_of, AreRising, AreApart, Store, IsStore}
use Rattle.spec_data.specs.Tables.{Scope, in_scope}
use Rattle.spec_store.specs.Stale.{up_to, stale, newest, Unseen}
use Rattle.spec_store.proofs.StoreLemmas.{both_true, AreRising-lower, AreRising-filter, last_of-rising, same_itself, same_means, any_false}

along : (scope : Scope) (e low : ℕ) (cutoff : Option ℕ) (rows : List Row) → AreRising low rows → low ≤ e
    → list_any (λ r. in_scope scope r && nat_lt e r.etag && up_to cutoff r.etag) rows ≡ nat_lt e (last_of low (filter (λ r. in_scope scope r && up_to cutoff r.etag) rows))
along scope e low cutoff [] up le = sym (le-ltb e low le)
along scope e low cutoff (r ∷ rows) up le =
    let below : rest ≡ nat_lt e (last_of low kept) = along scope e low cutoff rows (AreRising-lower low r.etag rows (let a = up.0 in omega arith) up.1) le in
    elim (in_scope scope r) as (λ b. (b && nat_lt e r.etag && up_to cutoff r.etag) || rest ≡ nat_lt e (last_of low (cond (b && up_to cutoff r.etag) (r ∷ kept) kept))) [
      | true ↦ elim (up_to cutoff r.etag) as (λ c. (nat_lt e r.etag && c) || rest ≡ nat_lt e (last_of low (cond c (r ∷ kept) kept))) [
        | true ↦ elim (nat_lt e r.etag) as (λ d. nat_lt e r.etag ≡ d → (d && true) || rest ≡ nat_lt e (last_of r.etag kept)) [
          | true ↦ λ is. sym (lt-ltb e (last_of r.etag kept)
              (let a = ltb-true e r.etag is in let b = last_of-rising r.etag kept (AreRising-filter r.etag passes rows up.1) in omega arith))
          | false ↦ λ is. along scope e r.etag cutoff rows up.1 (ltb-false e r.etag is)
        ] refl
        | false ↦ ap (λ b. b || rest) (never (nat_lt e r.etag)) ∙ below
      ]
      | false ↦ below
    ]
  where
    passes : Row → Bool
    passes x = in_scope scope x && up_to cutoff x.etag

    kept : List Row
    kept = filter passes rows

    rest : Bool
    rest = list_any (λ x. in_scope scope x && nat_lt e x.etag && up_to cutoff x.etag) rows

    never : (b : Bool) → b && false ≡ false
    never true = refl
    never false = refl

pub stale-newest : (S : Store) (scope : Scope) (e : ℕ) (cutoff : Option ℕ) → IsStore S → stale S scope e cutoff ≡ nat_lt e (newest S scope cutoff)
stale-newest S scope e cutoff s = along scope e 0 cutoff S.rows s.rising (omega arith)

-- BY ROWS THAT WERE NOT SEEN

-- if some row of the list passes, it is the row of some id
pub any_true : (p : Row → Bool) (rows : List Row) → AreApart rows → list_any p rows ≡ true → (q : List ℕ) × (r : Row) × (row_at q rows ≡ Some r) × (p r ≡ true)
any_true p [] apart h = absurd cc
any_true p (x ∷ rows) apart h =
    elim (p x) as (λ b. p x ≡ b → b || list_any p rows ≡ true → (q : List ℕ) × (r : Row) × (cond (same_key q (key x)) (Some x) (row_at q rows) ≡ Some r) × (p r ≡ true)) [
      | true ↦ λ e g. (key x, x, ap (λ b. cond b (Some x) (row_at (key x) rows)) (same_itself (key x)), e)
      | false ↦ λ e g. let f = any_true p rows apart.1 g in (f.0, f.1, later f.0 f.1 f.2, f.3)
    ] refl h
  where
    later : (q : List ℕ) (r : Row) → row_at q rows ≡ Some r → cond (same_key q (key x)) (Some x) (row_at q rows) ≡ Some r
    later q r is = elim (same_key q (key x)) as (λ b. same_key q (key x) ≡ b → cond b (Some x) (row_at q rows) ≡ Some r) [
      | true ↦ λ e. absurd (let f = subst (λ k. row_at k rows ≡ Some r) (same_means q (key x) e) is in let g = apart.0 in cc)
      | false ↦ λ e. is
    ] refl

pub stale-Unseen : (S : Store) (scope : Scope) (e : ℕ) (cutoff : Option ℕ) → IsStore S → stale S scope e cutoff ≡ true → Unseen S scope e cutoff
stale-Unseen S scope e cutoff s h =
    let f = any_true (λ r. in_scope scope r && nat_lt e r.etag && up_to cutoff r.etag) S.rows s.apart h in
    let g = both_true (in_scope scope f.1 && nat_lt e f.1.etag) (up_to cutoff f.1.etag) f.3 in
    let k = both_true (in_scope scope f.1) (nat_lt e f.1.etag) g.0 in
    record { id = f.0; row = f.1; found = f.2; read = k.0; past = ltb-true e f.1.etag k.1; before = g.1 }

pub fresh-seen : (S : Store) (scope : Scope) (e : ℕ) (cutoff : Option ℕ) → stale S scope e cutoff ≡ false → Unseen S scope e cutoff → ⊥
fresh-seen S scope e cutoff h u =
    let f = any_false (λ r. in_scope scope r && nat_lt e r.etag && up_to cutoff r.etag) u.id S.rows u.row h u.found in
    let g = ap (λ b. b && nat_lt e u.row.etag && up_to cutoff u.row.etag) u.read ∙ ap (λ b. b && up_to cutoff u.row.etag) (lt-ltb e u.row.etag u.past) ∙ u.before in cc

pub Unseen-stale : (S : Store) (scope : Scope) (e : ℕ) (cutoff : Option ℕ) → Unseen S scope e cutoff → stale S scope e cutoff ≡ true
Unseen-stale S scope e cutoff u = elim (stale S scope e cutoff) as (λ b. stale S scope e cutoff ≡ b → b ≡ true) [
  | true ↦ λ h. refl
  | false ↦ λ h. absurd (fresh-seen S scope e cutoff h u)
] refl

pub seen-fresh : (S : Store) (scope : Scope) (e : ℕ) (cutoff : Option ℕ) → IsStore S → (Unseen S scope e cutoff → ⊥) → stale S scope e cutoff ≡ false
seen-fresh S scope e cutoff s never = elim (stale S scope e cutoff) as (λ b. stale S scope e cutoff ≡ b → b ≡ false) [
  | true ↦ λ h. absurd (never (stale-Unseen S scope e cutoff s h))
  | false ↦ λ h. refl
] refl

pub stale-iff : (S : Store) (scope : Scope) (e : ℕ) (cutoff : Option ℕ) → IsStore S → (stale S scope e cutoff ≡ true) ↔ Unseen S scope e cutoff
stale-iff S scope e cutoff s = (stale-Unseen S scope e cutoff s, Unseen-stale S scope e cutoff)

pub fresh-iff : (S : Store) (scope : Scope) (e : ℕ) (cutoff : Option ℕ) → IsStore S → (stale S scope e cutoff ≡ false) ↔ (Unseen S scope e cutoff → ⊥)
fresh-iff S scope e cutoff s = (fresh-seen S scope e cutoff, seen-fresh S scope e cutoff s)
