-- The rows of `@indexes` stay those of the slots.
use Rattle.std.proofs.Common.{◌≡◌, ℕ, ◌+◌, List, [], ◌∷◌, ◌++◌, Bool, true, false, cond, nat_eq, Option, Some, None, Ok, map, refl, sym, ap, ◌∙◌, subst, ◌⊎◌, inl, inr, codes}
use Rattle.std.specs.List.{starts_with}
use Rattle.std.specs.Str.{bytes_eq}
use Rattle.std.proofs.lemmas.Slice.Eq.{bytes_eq-Decides}
use Rattle.std.specs.Option.{option_and_then, option_map}
use Rattle.spec_data.specs.Folding.{folded, same_key}
use Rattle.spec_data.specs.Rows.{Row, Body, doc, gone, key, is_document}
use Rattle.spec_store.specs.Store.{row_at, put, Store, last, with_row}
use Rattle.index_tree.specs.Definitions.{Definition, Static, Auto, AutoReduce}
use Rattle.spec_store.specs.Commit.{Command, Put, Delete, AnyVector, Writer, Client, Setting, Refusal, Written, first_of, refusal_of, reserved, is_reserved, is_index_id, too_large, collection_changed, conflict, store_full, etags_spent, collection_of, stored_body, row_spelling, document_at, tombstone, row_of, with_written, with_option, after_commands, or_refused, commit_from}
use Rattle.spec_index.specs.World.{Slot, index_id, row_body}
use Rattle.spec_server.specs.Sound.{Has, IsBodyOf, first, second, IsListed, AreListed}
use Rattle.spec_store.proofs.StoreLemmas.{same_row, either_false, row_at-put, same_itself, same_means, found_key}
use Rattle.spec_store.proofs.CommitLemmas.{put_key, document_found}
use Rattle.raven_laws.proofs.SlotLemmas.{Has-map, Has-mapped}

-- WHAT COMMANDS LEAVE

pub commit_from-applied : (at : ℕ) (s : Setting) (w : Writer) (now : ℕ) (cs : List Command) (done new : Written) → commit_from at s w now cs done ≡ Ok new → new.store ≡ after_commands now cs done.store
commit_from-applied at s w now [] done new h = let same : new ≡ done = cc in ap (λ (x : Written). x.store) same
commit_from-applied at s w now (c ∷ cs) done new h =
    elim (refusal_of s w done.store c) as (λ r. or_refused r at (commit_from (at + 1) s w now cs (with_written (row_of now done.store c) done)) ≡ Ok new → new.store ≡ after_commands now cs (with_option done.store (row_of now done.store c))) [
      | None ↦ λ g. commit_from-applied (at + 1) s w now cs (with_written (row_of now done.store c) done) new g ∙ ap (after_commands now cs) (written (row_of now done.store c))
      | Some kind ↦ λ g. absurd cc
    ] h
  where
    written : (o : Option Row) → (with_written o done).store ≡ with_option done.store o
    written None = refl
    written (Some r) = refl

-- KEYS OF INDEXES

pub index_apart : (a b : List ℕ) → folded (index_id a) ≡ folded (index_id b) → folded a ≡ folded b
index_apart a b h = cc

pub index_joined : (a b : List ℕ) → folded a ≡ folded b → folded (index_id a) ≡ folded (index_id b)
index_joined a b h = ap (λ x. folded (codes "@index/") ++ x) h

index_key : (q a : List ℕ) → q ≡ folded (index_id a) → starts_with nat_eq q (codes "@index/") ≡ true
index_key q a h = subst (λ k. starts_with nat_eq k (codes "@index/") ≡ true) (sym h) refl

pub in_indexes_collection : (d : Definition) → collection_of (row_body d) ≡ codes "@indexes"
in_indexes_collection (Static map reduce map_text reduce_text) = refl
in_indexes_collection (Auto c fields) = refl
in_indexes_collection (AutoReduce c groups sums) = refl

pub differ : (q k : List ℕ) → (q ≡ k → ⊥) → same_key q k ≡ false
differ q k never = elim (same_key q k) as (λ b. same_key q k ≡ b → b ≡ false) [ true ↦ λ e. absurd (never (same_means q k e)) | false ↦ λ e. refl ] refl

-- the row of a definition is a live one
pub body-live : (d : Definition) (r : Row) → IsBodyOf d r.body → is_document r ≡ true
body-live d r b = by b
  where
    is_live : Body → Bool
    is_live (doc body) = true
    is_live gone = false

    by : IsBodyOf d r.body → is_live r.body ≡ true
    by (second is) = ap is_live is
    by (first is undivided) = ap is_live is

-- A PUT OF A DEFINITION

pub put-AreListed : (S : Store) (slots more : List Slot) (now : ℕ) (name : List ℕ) (d : Definition) (new : Slot) → AreListed S slots
    → Has more new → folded new.name ≡ folded name → new.row ≡ last S + 1 → new.version.definition ≡ d
    → ((x : Slot) → Has more x → (new ≡ x) ⊎ (Has slots x × (folded x.name ≡ folded name → ⊥)))
    → ((x : Slot) → Has slots x → Has more x ⊎ (folded x.name ≡ folded name))
    → AreListed (with_option S (row_of now S (Put (index_id name) AnyVector (row_body d)))) more
put-AreListed S slots more now name d new l there called under means from to = record {
  each = λ x h. elim (from x h) [
    | inl e ↦ subst (IsListed (with_row S r)) e (record {
      row = r;
      found = found_at (folded (index_id new.name)) ∙ ap (λ b. cond b (Some r) (row_at (folded (index_id new.name)) S.rows)) (subst (λ k. same_key (folded (index_id new.name)) k ≡ true) (index_joined new.name name called) (same_itself (folded (index_id new.name))));
      etag = sym under;
      collection = in_indexes_collection d;
      body = second (ap (λ x. doc (stored_body (row_body x))) (sym means));
    })
    | inr old ↦
        let i = l.each x old.0 in
        record {
          row = i.row;
          etag = i.etag;
          collection = i.collection;
          body = i.body;
          found = found_at (folded (index_id x.name)) ∙ ap (λ b. cond b (Some r) (row_at (folded (index_id x.name)) S.rows)) (differ (folded (index_id x.name)) (folded (index_id name)) (λ e. old.1 (index_apart x.name name e))) ∙ i.found;
        }
  ];
  only = λ q x h is c. elim (same_key q (folded (index_id name))) as (λ b. same_key q (folded (index_id name)) ≡ b → cond b (Some r) (row_at q S.rows) ≡ Some x → (s : Slot) × Has more s × (q ≡ folded (index_id s.name))) [
    | true ↦ λ e g. (new, there, same_means q (folded (index_id name)) e ∙ sym (index_joined new.name name called))
    | false ↦ λ e g.
        let s = l.only q x g is c in
        elim (to s.0 s.1) [
          | inl k ↦ (s.0, k, s.2)
          | inr k ↦ absurd (let f = subst (λ y. same_key q y ≡ true) (s.2 ∙ index_joined s.0.name name k) (same_itself q) in cc)
        ]
  ] refl (sym (found_at q) ∙ h);
}
  where
    r : Row
    r = record { etag = last S + 1; id = row_spelling (index_id name) (row_at (folded (index_id name)) S.rows); collection = collection_of (row_body d); body = doc (stored_body (row_body d)); changed = now }

    found_at : (q : List ℕ) → row_at q (put r S.rows) ≡ cond (same_key q (folded (index_id name))) (Some r) (row_at q S.rows)
    found_at q = row_at-put q r S.rows ∙ ap (λ k. cond (same_key q k) (Some r) (row_at q S.rows)) (put_key (index_id name) S.rows)

-- A DELETE OF A DEFINITION

-- the row of a definition is a document
pub listed-document : (S : Store) (s : Slot) (i : IsListed S s) → document_at S (folded (index_id s.name)) ≡ Some i.row
listed-document S s i =
    ap (option_and_then (λ r. cond (is_document r) (Some r) None)) i.found ∙ ap (λ b. cond b (Some i.row) None) (body-live s.version.definition i.row i.body)

pub delete-AreListed : (S : Store) (slots less : List Slot) (now : ℕ) (s : Slot) → AreListed S slots → Has slots s
    → ((x : Slot) → Has less x → Has slots x × (folded x.name ≡ folded s.name → ⊥))
    → ((x : Slot) → Has slots x → Has less x ⊎ (folded x.name ≡ folded s.name))
    → AreListed (with_option S (row_of now S (Delete (index_id s.name) AnyVector))) less
delete-AreListed S slots less now s l h from to =
    subst (λ o. AreListed (with_option S (option_map (tombstone (last S + 1) now) o)) less) (sym (listed-document S s i)) (record {
      each = λ x at. let old = from x at in let j = l.each x old.0 in record {
        row = j.row;
        etag = j.etag;
        collection = j.collection;
        body = j.body;
        found = row_at-put (folded (index_id x.name)) t S.rows
            ∙ ap (λ b. cond b (Some t) (row_at (folded (index_id x.name)) S.rows)) (differ (folded (index_id x.name)) (key t) (λ e. old.1 (index_apart x.name s.name (e ∙ sym under))))
            ∙ j.found;
      };
      only = λ q x at is c. elim (same_key q (key t)) as (λ b. same_key q (key t) ≡ b → cond b (Some t) (row_at q S.rows) ≡ Some x → (w : Slot) × Has less w × (q ≡ folded (index_id w.name))) [
        | true ↦ λ e g. absurd (let f = ap is_document (same_row t x g) ∙ is in cc)
        | false ↦ λ e g. let w = l.only q x g is c in elim (to w.0 w.1) [
          | inl k ↦ (w.0, k, w.2)
          | inr k ↦ absurd (let f = subst (λ y. same_key q y ≡ true) (w.2 ∙ index_joined w.0.name s.name k ∙ under) (same_itself q) in cc)
        ]
      ] refl (sym (row_at-put q t S.rows) ∙ at);
    })
  where
    i : IsListed S s
    i = l.each s h

    t : Row
    t = tombstone (last S + 1) now i.row

    under : folded (index_id s.name) ≡ key t
    under = found_key (folded (index_id s.name)) S.rows i.row i.found

-- WHAT A CLIENT WRITES

first_none : (a : Option Refusal) (more : List (Option Refusal)) → first_of (a ∷ more) ≡ None → a ≡ None
first_none None more h = refl
first_none (Some r) more h = absurd cc

pub unreserved : (s : Setting) (S : Store) (c : Command) → refusal_of s Client S c ≡ None → is_reserved c ≡ false
unreserved s S c h =
    elim (is_reserved c) as (λ b. cond b (Some Refusal.ReservedId) None ≡ None → b ≡ false) [ true ↦ λ e. absurd cc | false ↦ λ e. refl ]
    (first_none (reserved Client c) (too_large c ∷ collection_changed S c ∷ conflict s S c ∷ store_full s S c ∷ etags_spent S c ∷ []) h)

-- a row whose id is no index's, and that is no live row of `@indexes`, changes nothing
other-AreListed : (S : Store) (slots : List Slot) (r : Row) → AreListed S slots → starts_with nat_eq (key r) (codes "@index/") ≡ false → (is_document r ≡ true → r.collection ≡ codes "@indexes" → ⊥) → AreListed (with_row S r) slots
other-AreListed S slots r l apart never = record {
  each = λ x h. let i = l.each x h in record {
    row = i.row;
    etag = i.etag;
    collection = i.collection;
    body = i.body;
    found = row_at-put (folded (index_id x.name)) r S.rows
        ∙ ap (λ b. cond b (Some r) (row_at (folded (index_id x.name)) S.rows)) (differ (folded (index_id x.name)) (key r) (λ e. let f = index_key (key r) x.name (sym e) in cc))
        ∙ i.found;
  };
  only = λ q x h is c. elim (same_key q (key r)) as (λ b. cond b (Some r) (row_at q S.rows) ≡ Some x → (s : Slot) × Has slots s × (q ≡ folded (index_id s.name))) [
    | true ↦ λ g. let same = same_row r x g in absurd (never (ap is_document same ∙ is) (ap (λ (y : Row). y.collection) same ∙ c))
    | false ↦ λ g. l.only q x g is c
  ] (sym (row_at-put q r S.rows) ∙ h);
}

client-AreListed : (s : Setting) (S : Store) (slots : List Slot) (now : ℕ) (c : Command) → refusal_of s Client S c ≡ None → AreListed S slots → AreListed (with_option S (row_of now S c)) slots
client-AreListed s S slots now (Put id expected body) h l =
    let f = either_false (is_index_id id) (bytes_eq (collection_of body) (codes "@indexes")) (unreserved s S (Put id expected body) h) in
    other-AreListed S slots _ l (subst (λ k. starts_with nat_eq k (codes "@index/") ≡ false) (sym (put_key id S.rows)) f.0)
    (λ is c. let g = (bytes_eq-Decides (collection_of body) (codes "@indexes")).1 c in let k = f.1 in cc)
client-AreListed s S slots now (Delete id expected) h l = by (document_at S (folded id)) refl
  where
    by : (o : Option Row) → document_at S (folded id) ≡ o → AreListed (with_option S (option_map (tombstone (last S + 1) now) o)) slots
    by None e = l
    by (Some d) e = other-AreListed S slots (tombstone (last S + 1) now d) l
        (subst (λ k. starts_with nat_eq k (codes "@index/") ≡ false) (found_key (folded id) S.rows d (document_found S (folded id) d e)) (unreserved s S (Delete id expected) h))
        (λ is c. cc)

pub clients-AreListed : (at : ℕ) (s : Setting) (now : ℕ) (cs : List Command) (done new : Written) (slots : List Slot) → commit_from at s Client now cs done ≡ Ok new → AreListed done.store slots → AreListed new.store slots
clients-AreListed at s now [] done new slots h l = let same : done ≡ new = cc in subst (λ (x : Written). AreListed x.store slots) same l
clients-AreListed at s now (c ∷ cs) done new slots h l =
    elim (refusal_of s Client done.store c) as (λ r. refusal_of s Client done.store c ≡ r → or_refused r at (commit_from (at + 1) s Client now cs (with_written (row_of now done.store c) done)) ≡ Ok new → AreListed new.store slots) [
      | None ↦ λ e g. clients-AreListed (at + 1) s now cs (with_written (row_of now done.store c) done) new slots g (written (row_of now done.store c) (client-AreListed s done.store slots now c e l))
      | Some kind ↦ λ e g. absurd cc
    ] refl h
  where
    written : (o : Option Row) → AreListed (with_option done.store o) slots → AreListed (with_written o done).store slots
    written None k = k
    written (Some r) k = k

-- slots that keep their names, rows and definitions stay listed
pub map-AreListed : (S : Store) (f : Slot → Slot) (slots : List Slot) → ((s : Slot) → Has slots s → ((f s).name ≡ s.name) × ((f s).row ≡ s.row) × ((f s).version.definition ≡ s.version.definition)) → AreListed S slots → AreListed S (map f slots)
map-AreListed S f slots keeps l = record {
  each = λ y h.
      let x = Has-map f slots y h in
      let k = keeps x.0 x.1 in
      let i = l.each x.0 x.1 in
      subst (IsListed S) x.2 (record {
        row = i.row;
        collection = i.collection;
        etag = i.etag ∙ sym k.1;
        found = ap (λ n. row_at (folded (index_id n)) S.rows) k.0 ∙ i.found;
        body = subst (λ d. IsBodyOf d i.row.body) (sym k.2) i.body;
      });
  only = λ q r h is c. let s = l.only q r h is c in (f s.0, Has-mapped f slots s.0 s.1, s.2 ∙ ap (λ n. folded (index_id n)) (sym (keeps s.0 s.1).0));
}
