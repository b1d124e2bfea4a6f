-- The entries of a table of documents are those that the map gives for the store's documents.
use Rattle.std.proofs.Common.{◌≡◌, ℕ, List, [], ◌∷◌, true, false, cond, ◌&&◌, ◌||◌, Option, Some, None, refl, sym, ap, ◌∙◌, subst, ◌⊎◌, inl, inr}
use Rattle.std.specs.List.{filter_map, cons_option, list_any}
use Rattle.std.specs.Option.{option_and_then}
use Rattle.std.specs.Ordering.{eq_by_cmp}
use Rattle.std.specs.Str.{bytes_eq}
use Rattle.std.specs.FinMap.{get, values, entries, find as entry_at, get-entries}
use Rattle.spec_data.specs.Folding.{key_cmp}
use Rattle.spec_data.specs.Rows.{Row, key, is_document}
use Rattle.spec_store.specs.Store.{row_at, Store, IsStore}
use Rattle.spec_data.specs.Tables.{Table, Scope, in_scope}
use Rattle.spec_index.specs.Index.{record_of, documents}
use Rattle.index_tree.specs.Meaning.{Fields, Outcome, Entry, NoEntry, Failed}
use Rattle.index_tree.specs.Mapper.{Mapper, scope_of, is_mapped}
use Rattle.spec_index.specs.Mapping.{mapped_documents, entry_of, scratch}
use Rattle.spec_server.specs.Sound.{Has}
use Rattle.spec_store.proofs.StoreLemmas.{both_true, found_key}
use Rattle.raven_laws.proofs.IndexLemmas.{get-documents}
use Rattle.raven_laws.proofs.SlotLemmas.{Has-filter, Has-mapped, passes, into-filter}
use Rattle.raven_laws.proofs.AnswerLemmas.{Has-filter_map, value_found}

-- LISTS

pub into-filter_map : {X Y : Type 0} (f : X → Option Y) (xs : List X) (x : X) (y : Y) → Has xs x → f x ≡ Some y → Has (filter_map f xs) y
into-filter_map f [] x y h is = absurd h
into-filter_map f (z ∷ xs) x y (inl e) is = subst (λ o. Has (cons_option o (filter_map f xs)) y) (sym (ap f e ∙ is)) (inl refl)
into-filter_map f (z ∷ xs) x y (inr h) is = elim (f z) as (λ o. Has (cons_option o (filter_map f xs)) y) [
  | None ↦ into-filter_map f xs x y h is
  | Some v ↦ inr (into-filter_map f xs x y h is)
]

-- TABLES

entry-Has : (q : List ℕ) (es : List (List ℕ × Row)) (r : Row) → entry_at key_cmp q es ≡ Some r → (e : List ℕ × Row) × Has es e × (e.1 ≡ r)
entry-Has q [] r h = absurd cc
entry-Has q (x ∷ es) r h =
    elim (eq_by_cmp key_cmp q x.0) as (λ b. cond b (Some x.1) (entry_at key_cmp q es) ≡ Some r → (e : List ℕ × Row) × ((x ≡ e) ⊎ Has es e) × (e.1 ≡ r)) [
      | true ↦ λ is. (x, inl refl, let same : x.1 ≡ r = cc in same)
      | false ↦ λ is. let f = entry-Has q es r is in (f.0, inr f.1, f.2)
    ] h

pub found-Has : (U : Table) (q : List ℕ) (r : Row) → get U q ≡ Some r → Has (values U) r
found-Has U q r h =
    let f = entry-Has q (entries U) r (sym (get-entries U q) ∙ h) in
    subst (Has (values U)) f.2 (Has-mapped (λ e. e.1) (entries U) f.0 f.1)

-- WHAT A TABLE OF DOCUMENTS HAS

recorded : (scope : Scope) (o : Option Row) (r : Row) → option_and_then (record_of scope) o ≡ Some r → (o ≡ Some r) × (is_document r ≡ true)
recorded scope None r h = absurd cc
recorded scope (Some x) r h =
    elim (in_scope scope x && is_document x) as (λ b. in_scope scope x && is_document x ≡ b → cond b (Some x) None ≡ Some r → (Some x ≡ Some r) × (is_document r ≡ true)) [
      | true ↦ λ e is. let same : x ≡ r = cc in (ap Some same, subst (λ y. is_document y ≡ true) same (both_true (in_scope scope x) (is_document x) e).1)
      | false ↦ λ e is. absurd cc
    ] refl h

document-row : (scope : Scope) (S : Store) (r : Row) → IsStore S → Has (values (documents scope S)) r → (row_at (key r) S.rows ≡ Some r) × (is_document r ≡ true)
document-row scope S r s h =
    let q = value_found (documents scope S) r h in
    let f = recorded scope (row_at q.0 S.rows) r (sym (get-documents scope S q.0 s) ∙ q.1) in
    (subst (λ k. row_at k S.rows ≡ Some r) (found_key q.0 S.rows r f.0) f.0, f.1)

row-document : (scope : Scope) (S : Store) (r : Row) → IsStore S → row_at (key r) S.rows ≡ Some r → in_scope scope r ≡ true → is_document r ≡ true → Has (values (documents scope S)) r
row-document scope S r s there inside is =
    found-Has (documents scope S) (key r) r (get-documents scope S (key r) s ∙ ap (option_and_then (record_of scope)) there
    ∙ ap (λ b. cond (b && is_document r) (Some r) None) inside ∙ ap (λ b. cond b (Some r) None) is)

-- ENTRIES

given : (id : List ℕ) (o : Outcome) (e : List ℕ × Fields) → entry_of id o ≡ Some e → (id ≡ e.0) × (o ≡ Entry e.1)
given id (Entry fields) e h = let same : (let x : List ℕ × Fields = (id, fields) in x) ≡ e = cc in (ap (λ (x : List ℕ × Fields). x.0) same, ap (λ (x : List ℕ × Fields). Entry x.1) same)
given id NoEntry e h = absurd cc
given id Failed e h = absurd cc

-- the map gives this entry for a document of the store
pub record Gives (m : Mapper) (S : Store) (r : Row) (e : List ℕ × Fields) : Type 0 where
  pub there : row_at (key r) S.rows ≡ Some r
  pub document : is_document r ≡ true
  pub mapped : is_mapped m r ≡ true
  pub id : r.id ≡ e.0
  pub outcome : (m.meaning r (documents (scope_of m) S)).outcome ≡ Entry e.1

pub scratch-given : (m : Mapper) (S : Store) (e : List ℕ × Fields) → IsStore S → Has (scratch m (documents (scope_of m) S)) e → (r : Row) × Gives m S r e
scratch-given m S e s h =
    let U = documents (scope_of m) S in
    let r = Has-filter_map (λ x. entry_of x.id (m.meaning x U).outcome) (mapped_documents m U) e h in
    let k = document-row (scope_of m) S r.0 s (Has-filter (is_mapped m) (values U) r.0 r.1) in
    let g = given r.0.id (m.meaning r.0 U).outcome e r.2 in
    (r.0, record { there = k.0; document = k.1; mapped = passes (is_mapped m) (values U) r.0 r.1; id = g.0; outcome = g.1 })

pub given-scratch : (m : Mapper) (S : Store) (r : Row) (fields : Fields) → IsStore S → Gives m S r (r.id, fields) → Has (scratch m (documents (scope_of m) S)) (r.id, fields)
given-scratch m S r fields s g =
    let U = documents (scope_of m) S in
    let inside : in_scope (scope_of m) r ≡ true = ap (λ b. b || list_any (bytes_eq r.collection) m.loaded) g.mapped in
    let there = row-document (scope_of m) S r s g.there inside g.document in
    into-filter_map (λ x. entry_of x.id (m.meaning x U).outcome) (mapped_documents m U) r (r.id, fields)
    (into-filter (is_mapped m) (values U) r there g.mapped) (ap (entry_of r.id) g.outcome)
