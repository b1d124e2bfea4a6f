-- A store with further rows is a store, and none of the steps to it is larger.
use Rattle.std.proofs.Common.{◌≡◌, ℕ, ◌<◌, ◌≤◌, ◌+◌, List, [], ◌∷◌, true, false, not, cond, None, filter, length, drop, get_or, refl, sym, ap, ◌∙◌, subst, arith}
use Rattle.std.proofs.lemmas.List.{drop_more, length-append}
use Rattle.spec_data.specs.Folding.{same_key}
use Rattle.spec_data.specs.Rows.{Row, key}
use Rattle.spec_store.specs.Store.{row_at, put, Store, IsStore, AreApart, with_row, with_rows}
use Rattle.spec_store.specs.Later.{MayFollowAll}
use Rattle.spec_store.proofs.StoreLemmas.{same_means}
use Rattle.spec_store.proofs.LaterLemmas.{IsStore-with, last-with}
use Rattle.doc_store.specs.Bounds.{IsWithin}
use Rattle.doc_store.proofs.MapLemmas.{none_out}

-- at most one row has an id
one_out : (k : List ℕ) (rows : List Row) → AreApart rows → length rows ≤ length (filter (λ x. not (same_key k (key x))) rows) + 1
one_out k [] apart = omega arith
one_out k (x ∷ rows) apart =
    elim (same_key k (key x)) as (λ b. same_key k (key x) ≡ b → length (x ∷ rows) ≤ length (cond (not b) (x ∷ filter (λ y. not (same_key k (key y))) rows) (filter (λ y. not (same_key k (key y))) rows)) + 1) [
      | true ↦ λ e. let same = ap length (none_out k rows (subst (λ q. row_at q rows ≡ None) (sym (same_means k (key x) e)) apart.0)) in omega arith
      | false ↦ λ e. let rest = one_out k rows apart.1 in omega arith
    ] refl

longer : (r : Row) (rows : List Row) → AreApart rows → length rows ≤ length (put r rows)
longer r rows apart = let one = one_out (key r) rows apart in omega (arith, length-append (filter (λ x. not (same_key (key r) (key x))) rows) (r ∷ []))

pub IsWithin-before : (S : Store) (rows : List Row) → IsStore S → MayFollowAll S rows → IsWithin (with_rows S rows) → IsWithin S
IsWithin-before S [] s m w = w
IsWithin-before S (r ∷ rows) s m w =
    let next : IsWithin (with_row S r) = IsWithin-before (with_row S r) rows (IsStore-with S r s m.0) m.1 w in
    record {
      etags = let a = next.etags in let b = last-with S r in let c = m.0.next in omega arith;
      rows = let a = next.rows in let b = longer r S.rows s.apart in omega arith;
    }

-- before each row of a list, the store with it is no larger than the store with all
pub IsWithin-step : (S N : Store) (rows : List Row) (i : ℕ) (r : Row) → i < length rows → get_or rows i r ≡ r → IsStore S → MayFollowAll S (drop i rows) → with_rows S (drop i rows) ≡ N
    → IsWithin N → IsWithin (with_row S r)
IsWithin-step S N rows i r lt is s m goes w =
    let rest : drop i rows ≡ r ∷ drop (i + 1) rows = drop_more rows i r lt ∙ ap (λ x. x ∷ drop (i + 1) rows) is in
    let follow : MayFollowAll S (r ∷ drop (i + 1) rows) = subst (MayFollowAll S) rest m in
    IsWithin-before (with_row S r) (drop (i + 1) rows) (IsStore-with S r s follow.0) follow.1 (subst IsWithin (sym goes ∙ ap (with_rows S) rest) w)
