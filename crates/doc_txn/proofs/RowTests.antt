-- The tests of a command are those of the row that it would write.
use Rattle.std.proofs.Common.{◌≡◌, ◌+◌, ℕ, List, [], ◌∷◌, length, Bool, true, false, cond, not, ◌||◌, ◌&&◌, Option, Some, None, is_some, is_none, nat_le, ◌==◌, refl, ap, ◌∙◌}
use Rattle.std.specs.Option.{option_and_then, option_map, option_or}
use Rattle.std.proofs.lemmas.Slice.Eq.{bytes_eq-Decides}
use Rattle.spec_data.specs.Folding.{folded}
use Rattle.spec_data.specs.Limits.{max_etag}
use Rattle.spec_data.specs.Rows.{Row, is_document}
use Rattle.spec_store.specs.Store.{Store, last, row_at}
use Rattle.spec_store.specs.Commit.{Command, Put, Delete, Writer, Client, Server, Setting, Expect, Refusal, id_of, expected_of, document_at, differs, live_vector, first_of, refuse_if, is_index_id, reserved, too_large, collection_changed, conflict, store_full, etags_spent, refusal_of, row_of, tombstone}
use Rattle.doc_txn.specs.FaultView.{kind_view}
use Rattle.doc_txn.specs.declared.fault.TxnKind.{TxnKind}
use Rattle.doc_txn.specs.Tests.{reserved_for, large_row, moved_row, full_for, refused_for, spent_for}

either_false : (b : Bool) → b || false ≡ b
either_false true = refl
either_false false = refl

pub reserved-row : (w : Writer) (now : ℕ) (S : Store) (c : Command) → reserved_for w (id_of c) (row_of now S c) ≡ reserved w c
reserved-row Server now S c = refl
reserved-row Client now S (Put id expected body) = refl
reserved-row Client now S (Delete id expected) =
    elim (document_at S (folded id)) as (λ o. reserved_for Client id (option_map (tombstone (last S + 1) now) o) ≡ reserved Client (Delete id expected)) [
      | None ↦ ap (λ b. refuse_if b Refusal.ReservedId) (either_false (is_index_id id))
      | Some r ↦ ap (λ b. refuse_if b Refusal.ReservedId) (either_false (is_index_id id))
    ]

pub large-row : (now : ℕ) (S : Store) (c : Command) → large_row (row_of now S c) ≡ too_large c
large-row now S (Put id expected body) = refl
large-row now S (Delete id expected) = elim (document_at S (folded id)) as (λ o. large_row (option_map (tombstone (last S + 1) now) o) ≡ None) [ None ↦ refl | Some r ↦ refl ]

-- a tombstone keeps the collection
same_place : (now etag : ℕ) (o : Option Row) → moved_row (option_map (tombstone etag now) (option_and_then (λ r. cond (is_document r) (Some r) None) o)) o ≡ None
same_place now etag None = refl
same_place now etag (Some r) =
    elim (is_document r) as (λ b. moved_row (option_map (tombstone etag now) (cond b (Some r) None)) (Some r) ≡ None) [
      | true ↦ ap (λ b. refuse_if (not b) (Refusal.CollectionChanged r.collection)) ((bytes_eq-Decides r.collection r.collection).1 refl)
      | false ↦ refl
    ]

pub moved-row : (now : ℕ) (S : Store) (c : Command) → moved_row (row_of now S c) (row_at (folded (id_of c)) S.rows) ≡ collection_changed S c
moved-row now S (Put id expected body) = refl
moved-row now S (Delete id expected) = same_place now (last S + 1) (row_at (folded id) S.rows)

not_new : (now etag most rows : ℕ) (o : Option Row) → is_some (option_map (tombstone etag now) (option_and_then (λ r. cond (is_document r) (Some r) None) o)) && is_none o && nat_le most rows ≡ false
not_new now etag most rows None = refl
not_new now etag most rows (Some r) = elim (is_document r) as (λ b. is_some (option_map (tombstone etag now) (cond b (Some r) None)) && false && nat_le most rows ≡ false) [ true ↦ refl | false ↦ refl ]

pub full-row : (s : Setting) (now : ℕ) (S : Store) (c : Command) → full_for s S (row_of now S c) (row_at (folded (id_of c)) S.rows) ≡ store_full s S c
full-row s now S (Put id expected body) = refl
full-row s now S (Delete id expected) =
    ap (λ b. refuse_if b (Refusal.StoreFull (length S.rows))) (not_new now (last S + 1) s.max_rows (length S.rows) (row_at (folded id) S.rows))

pub spent-row : (now : ℕ) (S : Store) (c : Command) → spent_for S (row_of now S c) ≡ etags_spent S c
spent-row now S (Put id expected body) = refl
spent-row now S (Delete id expected) =
    elim (document_at S (folded id)) as (λ o. spent_for S (option_map (tombstone (last S + 1) now) o) ≡ refuse_if (is_some o && (last S == max_etag)) (Refusal.EtagsSpent (last S))) [ None ↦ refl | Some r ↦ refl ]

pub refusal-row : (s : Setting) (w : Writer) (now : ℕ) (S : Store) (c : Command) (row : Option Row) → row ≡ row_of now S c →
    first_of (reserved_for w (id_of c) row ∷ large_row row ∷ moved_row row (row_at (folded (id_of c)) S.rows) ∷ conflict s S c ∷ full_for s S row (row_at (folded (id_of c)) S.rows) ∷ spent_for S row ∷ [])
    ≡ refusal_of s w S c
refusal-row s w now S c row is = λ i. first_of
    ((ap (reserved_for w (id_of c)) is ∙ reserved-row w now S c) i
    ∷ (ap large_row is ∙ large-row now S c) i
    ∷ (ap (λ r. moved_row r (row_at (folded (id_of c)) S.rows)) is ∙ moved-row now S c) i
    ∷ conflict s S c
    ∷ (ap (λ r. full_for s S r (row_at (folded (id_of c)) S.rows)) is ∙ full-row s now S c) i
    ∷ (ap (spent_for S) is ∙ spent-row now S c) i
    ∷ [])

first-or : (a b c d e f : Option TxnKind) →
    option_map kind_view (option_or (option_or (option_or (option_or (option_or a b) c) d) e) f)
    ≡ first_of (option_map kind_view a ∷ option_map kind_view b ∷ option_map kind_view c ∷ option_map kind_view d ∷ option_map kind_view e ∷ option_map kind_view f ∷ [])
first-or (Some k) b c d e f = refl
first-or None (Some k) c d e f = refl
first-or None None (Some k) d e f = refl
first-or None None None (Some k) e f = refl
first-or None None None None (Some k) f = refl
first-or None None None None None (Some k) = refl
first-or None None None None None None = refl

-- the first test that stands, where all of them are on the id, the row of the id and the document of it
pub refused-by-row : (s : Setting) (w : Writer) (S : Store) (row : Option Row) (id : List ℕ) (old document : Option Row) (expected : Expect) (a b c d e f : Option TxnKind)
    → old ≡ row_at (folded id) S.rows → document ≡ option_and_then (λ r. cond (is_document r) (Some r) None) old
    → option_map kind_view a ≡ reserved_for w id row → option_map kind_view b ≡ large_row row → option_map kind_view c ≡ moved_row row old
    → option_map kind_view d ≡ differs expected (live_vector s.base document) → option_map kind_view e ≡ full_for s S row old → option_map kind_view f ≡ spent_for S row
    → option_map kind_view (option_or (option_or (option_or (option_or (option_or a b) c) d) e) f) ≡ refused_for s w S id expected row
refused-by-row s w S row id old document expected a b c d e f place lives p q r t u v =
    let living : document ≡ document_at S (folded id) = lives ∙ ap (option_and_then (λ r. cond (is_document r) (Some r) None)) place in
    first-or a b c d e f
    ∙ (λ i. first_of (p i
    ∷ q i
    ∷ (r ∙ ap (moved_row row) place) i
    ∷ (t ∙ λ j. differs expected (live_vector s.base (living j))) i
    ∷ (u ∙ ap (full_for s S row) place) i
    ∷ v i
    ∷ []))

-- and that is the refusal of the command that has this id, expects this and would write this row
pub refused-as : (s : Setting) (w : Writer) (now : ℕ) (S : Store) (c : Command) (id : List ℕ) (expected : Expect) (row : Option Row) → id ≡ id_of c → expected ≡ expected_of c → row ≡ row_of now S c
    → refused_for s w S id expected row ≡ refusal_of s w S c
refused-as s w now S c id expected row at asked is = (λ i. refused_for s w S (at i) (asked i) row) ∙ refusal-row s w now S c row is

pub none-of : (a b c d e f : Option TxnKind) → option_or (option_or (option_or (option_or (option_or a b) c) d) e) f ≡ None → (e ≡ None) × (f ≡ None)
none-of (Some k) b c d e f h = absurd cc
none-of None (Some k) c d e f h = absurd cc
none-of None None (Some k) d e f h = absurd cc
none-of None None None (Some k) e f h = absurd cc
none-of None None None None (Some k) f h = absurd cc
none-of None None None None None f h = (refl, h)
