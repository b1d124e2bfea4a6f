-- A store grows into later ones.
use Rattle.std.proofs.Common.{◌≡◌, ℕ, ◌≤◌, ◌<◌, List, Bool, true, false, cond, Some, refl, sym, ap, ◌∙◌, subst, arith, ◌⊎◌, inl, inr}
use Rattle.std.proofs.lemmas.Bool.Decides.{leb_tells}
use Rattle.spec_data.specs.Folding.{same_key}
use Rattle.spec_data.specs.Rows.{Row, key, is_document}
use Rattle.spec_store.specs.Store.{row_at, put, Store, last, IsStore, with_row}
use Rattle.spec_store.specs.Later.{StillHas, MayBeCleaned, Later, MayFollow}
use Rattle.spec_store.proofs.StoreLemmas.{row_at-put, found_etag, same_means, same_row, last_of-put, AreRising-put, AreApart-put, TombstonesPast-put}

up_to-or-past : (a b : ℕ) → (a ≤ b) ⊎ (b < a)
up_to-or-past a b = elim (leb_tells a b) [ inl y ↦ inl y.1 | inr n ↦ inr n.1 ]

pub StillHas-then : (P : List Row) (q : List ℕ) (a b : Row) → b.collection ≡ a.collection → b.id ≡ a.id → a.etag ≤ b.etag → StillHas P q b → StillHas P q a
StillHas-then P q a b same spelled up h = record { row = h.row; found = h.found; same = h.same ∙ same; spelled = h.spelled ∙ spelled; no_older = let x = h.no_older in omega arith }

pub StillHas-itself : (rows : List Row) (q : List ℕ) (r : Row) → row_at q rows ≡ Some r → StillHas rows q r
StillHas-itself rows q r h = record { row = r; found = h; same = refl; spelled = refl; no_older = omega arith }

-- if no more was cleaned, each id still has its row
pub still : (S N : Store) (q : List ℕ) (r : Row) → Later S N → N.cleaned ≤ S.cleaned → row_at q S.rows ≡ Some r → StillHas N.rows q r
still S N q r f same h = elim (f.kept q r h) [ inl k ↦ k | inr c ↦ absurd (let a = c.more in omega arith) ]

-- so does each document that is past all that was cleaned, and so it is up to the last etag
pub document_still : (S N : Store) (q : List ℕ) (r : Row) → Later S N → N.cleaned ≤ last S → is_document r ≡ true → row_at q S.rows ≡ Some r → StillHas N.rows q r
document_still S N q r f within is h = elim (f.kept q r h) [
  | inl k ↦ k
  | inr c ↦ elim c.deleted [ inl none ↦ absurd (let a : true ≡ false = sym is ∙ none in cc) | inr far ↦ absurd (omega arith) ]
]

pub Later-itself : (S : Store) → Later S S
Later-itself S = record { grown = omega arith; cleaned = omega arith; settled = λ q r h le. h; kept = λ q r h. inl (StillHas-itself S.rows q r h) }

-- a row that came after all rows of S, or is a row of S, was cleaned: so may be the row of S that it replaced
cleaned-then : (S N P : Store) (q : List ℕ) (r n : Row) → Later S N → row_at q S.rows ≡ Some r → row_at q N.rows ≡ Some n → r.etag ≤ n.etag → MayBeCleaned N P n → MayBeCleaned S P r
cleaned-then S N P q r n f h at up c = record {
  more = let a = f.cleaned in let b = c.more in omega arith;
  reached = let a = c.reached in omega arith;
  deleted = elim c.deleted [ inl none ↦ by none (up_to-or-past n.etag (last S)) | inr far ↦ inr (let a = f.grown in omega arith) ];
}
  where
    by : is_document n ≡ false → (n.etag ≤ last S) ⊎ (last S < n.etag) → (is_document r ≡ false) ⊎ (last S < P.cleaned)
    by none (inl old) = inl (subst (λ (y : Row). is_document y ≡ false) (same_row n r (sym (f.settled q n at old) ∙ h)) none)
    by none (inr new) = inr (let a = c.reached in omega arith)

pub Later-then : (S N P : Store) → Later S N → Later N P → Later S P
Later-then S N P f g = record {
  grown = let a = f.grown in let b = g.grown in omega arith;
  cleaned = let a = f.cleaned in let b = g.cleaned in omega arith;
  settled = λ q r h le. f.settled q r (g.settled q r h (let a = f.grown in omega arith)) le;
  kept = λ q r h. elim (f.kept q r h) [
    | inl n ↦ elim (g.kept q n.row n.found) [
      | inl k ↦ inl (StillHas-then P.rows q r n.row n.same n.spelled n.no_older k)
      | inr c ↦ inr (cleaned-then S N P q r n.row f h n.found n.no_older c)
    ]
    | inr c ↦ inr (record {
      more = let a = c.more in let b = g.cleaned in omega arith;
      reached = let a = c.reached in let b = g.cleaned in omega arith;
      deleted = elim c.deleted [ inl none ↦ inl none | inr far ↦ inr (let b = g.cleaned in omega arith) ];
    })
  ];
}

pub last-with : (S : Store) (r : Row) → last (with_row S r) ≡ r.etag
last-with S r = last_of-put 0 r S.rows

pub IsStore-with : (S : Store) (r : Row) → IsStore S → MayFollow S r → IsStore (with_row S r)
IsStore-with S r s m = record {
  rising = AreRising-put 0 r S.rows s.rising (let e = m.next in omega arith);
  apart = AreApart-put r S.rows s.apart;
  behind = let e = m.next in let b = s.behind in let f = last-with S r in omega arith;
  past = TombstonesPast-put S.cleaned r S.rows s.past (let e = m.next in let b = s.behind in omega arith);
}

pub Later-with : (S : Store) (r : Row) → IsStore S → MayFollow S r → Later S (with_row S r)
Later-with S r s m = record {
  grown = let e = m.next in let f = last-with S r in omega arith;
  cleaned = omega arith;
  settled = λ q x h le.
      elim (same_key q (key r)) as (λ b. cond b (Some r) (row_at q S.rows) ≡ Some x → row_at q S.rows ≡ Some x) [
        | true ↦ λ is. let same : r ≡ x = cc in let e = ap (λ (y : Row). y.etag) same in let f = m.next in absurd (omega arith)
        | false ↦ λ is. is
      ] (sym (row_at-put q r S.rows) ∙ h);
  kept = λ q x h. inl (
      elim (same_key q (key r)) as (λ b. same_key q (key r) ≡ b → StillHas (put r S.rows) q x) [
        | true ↦ λ e. record {
          row = r;
          found = row_at-put q r S.rows ∙ ap (λ b. cond b (Some r) (row_at q S.rows)) e;
          same = m.same x (subst (λ k. row_at k S.rows ≡ Some x) (same_means q (key r) e) h);
          spelled = m.spelled x (subst (λ k. row_at k S.rows ≡ Some x) (same_means q (key r) e) h);
          no_older = let b = (found_etag 0 q S.rows x s.rising h).1 in let f = m.next in omega arith;
        }
        | false ↦ λ e. record {
          row = x;
          found = row_at-put q r S.rows ∙ ap (λ b. cond b (Some r) (row_at q S.rows)) e ∙ h;
          same = refl;
          spelled = refl;
          no_older = omega arith;
        }
      ] refl);
}
