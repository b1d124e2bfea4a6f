-- A transaction gives a later store.
use Rattle.std.proofs.Common.{◌≡◌, ℕ, ◌+◌, List, [], ◌∷◌, ◌++◌, true, false, not, cond, Option, Some, None, Result, Ok, refl, sym, ap, ◌∙◌, subst}
use Rattle.std.specs.Str.{bytes_eq}
use Rattle.std.proofs.lemmas.Slice.Eq.{bytes_eq-Decides}
use Rattle.std.specs.Option.{option_and_then, option_map}
use Rattle.spec_data.specs.Folding.{folded}
use Rattle.spec_data.specs.Rows.{Row, is_document}
use Rattle.spec_store.specs.Store.{row_at, last_of, Store, last, IsStore, with_row, with_rows}
use Rattle.spec_store.specs.Later.{MayFollow}
use Rattle.spec_store.specs.Commit.{Command, Put, Delete, Writer, Setting, Refusal, Refused, Written, first_of, refusal_of, reserved, too_large, collection_changed, collection_of, other_collection, conflict, store_full, etags_spent, row_spelling, document_at, row_of, tombstone, with_written, or_refused, commit_from, commit, AreNext, Commits}
use Rattle.spec_store.proofs.StoreLemmas.{same_row, found_key}
use Rattle.spec_store.proofs.LaterLemmas.{IsStore-with, last-with, Later-with, Later-itself, Later-then}

pub same_ok : (a b : Written) → (let x : Result Written Refused = Ok a in x) ≡ Ok b → a ≡ b
same_ok a b h = cc

third_none : (a b c : Option Refusal) (more : List (Option Refusal)) → first_of (a ∷ b ∷ c ∷ more) ≡ None → c ≡ None
third_none None None None more h = refl
third_none None None (Some r) more h = cc
third_none None (Some r) c more h = absurd cc
third_none (Some r) b c more h = absurd cc

not_changed : (s : Setting) (w : Writer) (S : Store) (c : Command) → refusal_of s w S c ≡ None → collection_changed S c ≡ None
not_changed s w S c h = third_none (reserved w c) (too_large c) (collection_changed S c) (conflict s S c ∷ store_full s S c ∷ etags_spent S c ∷ []) h

-- a Put that is not refused has the collection of the row that it replaces
same_collection : (c : List ℕ) (x : Row) → other_collection c (Some x) ≡ None → c ≡ x.collection
same_collection c x h =
    elim (bytes_eq c x.collection) as (λ b. bytes_eq c x.collection ≡ b → cond (not b) (Some (Refusal.CollectionChanged x.collection)) None ≡ None → c ≡ x.collection) [
      | true ↦ λ e is. (bytes_eq-Decides c x.collection).0 e
      | false ↦ λ e is. absurd cc
    ] refl h

pub put_key : (id : List ℕ) (rows : List Row) → folded (row_spelling id (row_at (folded id) rows)) ≡ folded id
put_key id rows = elim (row_at (folded id) rows) as (λ o. row_at (folded id) rows ≡ o → folded (row_spelling id o) ≡ folded id) [
  | None ↦ λ is. refl
  | Some r ↦ λ is. sym (found_key (folded id) rows r is)
] refl

at_id : (id : List ℕ) (S : Store) (x : Row) → row_at (folded (row_spelling id (row_at (folded id) S.rows))) S.rows ≡ Some x → row_at (folded id) S.rows ≡ Some x
at_id id S x g = subst (λ k. row_at k S.rows ≡ Some x) (put_key id S.rows) g

pub document_found : (S : Store) (q : List ℕ) (r : Row) → document_at S q ≡ Some r → row_at q S.rows ≡ Some r
document_found S q r h = elim (row_at q S.rows) as (λ o. option_and_then (λ x. cond (is_document x) (Some x) None) o ≡ Some r → o ≡ Some r) [
  | None ↦ λ g. absurd cc
  | Some x ↦ λ g. elim (is_document x) as (λ b. cond b (Some x) None ≡ Some r → Some x ≡ Some r) [ true ↦ λ e. e | false ↦ λ e. absurd cc ] g
] h

pub row_of-follows : (s : Setting) (w : Writer) (now : ℕ) (S : Store) (c : Command) (r : Row) → refusal_of s w S c ≡ None → row_of now S c ≡ Some r → MayFollow S r
row_of-follows s w now S (Put id expected body) r h is =
    subst (MayFollow S) (same_row _ r is) (record {
      next = refl;
      same = λ x g. same_collection (collection_of body) x
          (ap (other_collection (collection_of body)) (sym (at_id id S x g)) ∙ not_changed s w S (Put id expected body) h);
      spelled = λ x g. ap (row_spelling id) (at_id id S x g);
    })
row_of-follows s w now S (Delete id expected) r h is =
    elim (document_at S (folded id)) as (λ o. document_at S (folded id) ≡ o → option_map (tombstone (last S + 1) now) o ≡ Some r → MayFollow S r) [
      | None ↦ λ e g. absurd cc
      | Some d ↦ λ e g.
          let there = document_found S (folded id) d e in
          subst (MayFollow S) (same_row _ r g) (record {
            next = refl;
            same = λ x at. let k = found_key (folded id) S.rows d there in
                let both : Some d ≡ Some x = sym there ∙ subst (λ q. row_at q S.rows ≡ Some x) (sym k) at in
                ap (λ (y : Row). y.collection) (same_row d x both);
            spelled = λ x at. let k = found_key (folded id) S.rows d there in
                let both : Some d ≡ Some x = sym there ∙ subst (λ q. row_at q S.rows ≡ Some x) (sym k) at in
                ap (λ (y : Row). y.id) (same_row d x both);
          })
    ] refl is

pub with_rows-push : (S : Store) (rows : List Row) (r : Row) → with_rows S (rows ++ r ∷ []) ≡ with_row (with_rows S rows) r
with_rows-push S [] r = refl
with_rows-push S (x ∷ rows) r = with_rows-push (with_row S x) rows r

-- writing cleans nothing
pub cleaned-with_rows : (S : Store) (rows : List Row) → (with_rows S rows).cleaned ≡ S.cleaned
cleaned-with_rows S [] = refl
cleaned-with_rows S (r ∷ rows) = cleaned-with_rows (with_row S r) rows

pub Commits-cleaned : (S : Store) (w : Written) → Commits S w → w.store.cleaned ≡ S.cleaned
Commits-cleaned S w c = ap (λ (T : Store). T.cleaned) c.rows ∙ cleaned-with_rows S w.rows

pub AreNext-push : (e : ℕ) (rows : List Row) (r : Row) → AreNext e rows → r.etag ≡ last_of e rows + 1 → AreNext e (rows ++ r ∷ [])
AreNext-push e [] r h g = (g, tt)
AreNext-push e (x ∷ rows) r h g = (h.0, AreNext-push x.etag rows r h.1 g)

pub last-with_rows : (S : Store) (rows : List Row) → last (with_rows S rows) ≡ last_of (last S) rows
last-with_rows S [] = refl
last-with_rows S (r ∷ rows) = last-with_rows (with_row S r) rows ∙ ap (λ e. last_of e rows) (last-with S r)

Commits-row : (S : Store) (done : Written) (r : Row) → Commits S done → MayFollow done.store r → Commits S (with_written (Some r) done)
Commits-row S done r c m = record {
  sound = IsStore-with done.store r c.sound m;
  later = Later-then S done.store (with_row done.store r) c.later (Later-with done.store r c.sound m);
  rows = ap (λ T. with_row T r) c.rows ∙ sym (with_rows-push S done.rows r);
  next = AreNext-push (last S) done.rows r c.next (m.next ∙ ap (λ n. n + 1) (ap last c.rows ∙ last-with_rows S done.rows));
}

Commits-option : (S : Store) (done : Written) (o : Option Row) → Commits S done → ((r : Row) → o ≡ Some r → MayFollow done.store r) → Commits S (with_written o done)
Commits-option S done None c m = c
Commits-option S done (Some r) c m = Commits-row S done r c (m r refl)

pub commit_from-Commits : (S : Store) (at : ℕ) (s : Setting) (w : Writer) (now : ℕ) (cs : List Command) (done new : Written)
    → Commits S done → commit_from at s w now cs done ≡ Ok new → Commits S new
commit_from-Commits S at s w now [] done new c h = subst (Commits S) (same_ok done new h) c
commit_from-Commits S at s w now (x ∷ cs) done new c h =
    elim (refusal_of s w done.store x) as (λ o. refusal_of s w done.store x ≡ o → or_refused o at (commit_from (at + 1) s w now cs (with_written (row_of now done.store x) done)) ≡ Ok new → Commits S new) [
      | None ↦ λ e g. commit_from-Commits S (at + 1) s w now cs (with_written (row_of now done.store x) done) new
          (Commits-option S done (row_of now done.store x) c (λ r is. row_of-follows s w now done.store x r e is)) g
      | Some kind ↦ λ e g. absurd cc
    ] refl h

pub commit-Commits : (s : Setting) (w : Writer) (now : ℕ) (cs : List Command) (S : Store) (new : Written) → IsStore S → commit s w now cs S ≡ Ok new → Commits S new
commit-Commits s w now cs S new h is =
    commit_from-Commits S 0 s w now cs (record { store = S; rows = [] }) new (record { sound = h; later = Later-itself S; rows = refl; next = tt }) is
