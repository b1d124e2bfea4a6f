-- Rows that open again stay so, whatever is written.
use Rattle.std.proofs.Common.{◌≡◌, ℕ, ◌+◌, ◌<◌, ◌≤◌, List, [], ◌∷◌, Bool, true, false, not, cond, ◌&&◌, nat_lt, nat_le, nat_eq, length, drop, codes, filter, Option, Some, None, option_map, Result, Ok, refl, ap, ◌∙◌, subst, arith, inl, inr, IsTrue}
use Rattle.std.proofs.lemmas.Bool.{le-leb, lt-ltb, ltb-false, leb-true}
use Rattle.std.specs.List.{starts_with}
use Rattle.std.specs.Str.{bytes_eq}
use Rattle.spec_data.specs.Data.{Data, text}
use Rattle.spec_data.specs.Faults.{is_fit, max_id}
use Rattle.spec_data.specs.Folding.{folded, same_key}
use Rattle.spec_data.specs.Members.{value_at}
use Rattle.spec_data.specs.Moments.{moments_end}
use Rattle.spec_data.specs.Rows.{Row, Body, doc, key}
use Rattle.spec_data.specs.Written.{text_of}
use Rattle.spec_store.specs.Store.{row_at, put, Store, last, with_row}
use Rattle.spec_store.specs.Kept.{max_body, is_etag}
use Rattle.index_tree.specs.Definitions.{Definition}
use Rattle.spec_server.specs.Opening.{name_in, is_filed}
use Rattle.spec_store.specs.Commit.{Command, Expect, Put, Delete, AnyVector, Writer, Client, Server, Setting, Refusal, Written, Refused, collection_of, named_collection, is_index_id, stored_body, row_spelling, document_at, refusal_of, reserved, too_large, collection_changed, conflict, store_full, etags_spent, row_of, tombstone, with_written, or_refused, commit_from}
use Rattle.spec_index.specs.World.{index_id, row_body}
use Rattle.spec_server.specs.Sound.{Has}
use Rattle.spec_store.proofs.StoreLemmas.{same_row, either_false, both_true}
use Rattle.spec_store.proofs.LaterLemmas.{last-with}
use Rattle.spec_store.proofs.CommitLemmas.{put_key, document_found}
use Rattle.raven_laws.proofs.KeepLemmas.{next_etag}
use Rattle.raven_laws.proofs.LimitLemmas.{all_none, takes, unspent}
use Rattle.raven_laws.proofs.ListedLemmas.{in_indexes_collection, unreserved}
use Rattle.raven_laws.proofs.OpenLemmas.{folded-drop}
use Rattle.raven_laws.proofs.SlotLemmas.{Has-append, Has-filter, find-Has}
use Rattle.raven_reading.specs.Requests.{IsRequestBody, IsCommand, AreCommands}
use Rattle.raven_reopening.proofs.ReadLemmas.{IsBack}
use Rattle.raven_reopening.proofs.BodyLemmas.{stored-back}
use Rattle.raven_reopening.proofs.FitLemmas.{index_id-fit}

-- a row that a database can be opened with, if its definition can be read
pub record Lasts (r : Row) : Type 0 where
  pub back : IsBack r
  pub filed : is_filed r ≡ true

abbrev pub AllLast : List Row → Type 0
AllLast rows = (r : Row) → Has rows r → Lasts r

AllLast-put : (r : Row) (rows : List Row) → AllLast rows → Lasts r → AllLast (put r rows)
AllLast-put r rows all l x h = elim (Has-append (filter (λ y. not (same_key (key r) (key y))) rows) (r ∷ []) x h) [
  | inl old ↦ all x (Has-filter (λ y. not (same_key (key r) (key y))) rows x old)
  | inr (inl e) ↦ subst Lasts e l
  | inr (inr no_more) ↦ absurd no_more
]

-- WHAT A COMMAND THAT IS TAKEN WRITES

new_etag : (s : Setting) (w : Writer) (now : ℕ) (S : Store) (c : Command) (r : Row) → refusal_of s w S c ≡ None → row_of now S c ≡ Some r → last S ≤ 9007199254740991 → is_etag r.etag ≡ true
new_etag s w now S c r h is le =
    let below = unspent s w S c h (takes now S c r is) le in
    let next = next_etag now S c r is in
    ap (λ b. b && nat_le r.etag 9007199254740991) (lt-ltb 0 r.etag (omega arith)) ∙ le-leb r.etag 9007199254740991 (omega arith)

not_large : (s : Setting) (w : Writer) (S : Store) (id : List ℕ) (expected : _) (body : Data) → refusal_of s w S (Put id expected body) ≡ None → length (text_of (stored_body body)) ≤ max_body
not_large s w S id expected body h =
    let c = Put id expected body in
    let none = all_none (reserved w c ∷ too_large c ∷ collection_changed S c ∷ conflict s S c ∷ store_full s S c ∷ etags_spent S c ∷ []) (too_large c) h (inr (inl refl)) in
    elim (nat_lt 1048576 (length (text_of (stored_body body)))) as (λ b. nat_lt 1048576 (length (text_of (stored_body body))) ≡ b → cond b (Some (Refusal.TooLarge (length (text_of (stored_body body))))) None ≡ None → length (text_of (stored_body body)) ≤ max_body) [
      | true ↦ λ e g. absurd cc
      | false ↦ λ e g. ltb-false 1048576 (length (text_of (stored_body body))) e
    ] refl none

-- the name of a collection has a byte
named-some : (o : Option Data) → 0 < length (named_collection o)
named-some None = omega arith
named-some (Some Data.null) = omega arith
named-some (Some (Data.flag b)) = omega arith
named-some (Some (Data.num n)) = omega arith
named-some (Some (Data.array ds)) = omega arith
named-some (Some (Data.object ms)) = omega arith
named-some (Some (text [])) = omega arith
named-some (Some (text (b ∷ bs))) = omega arith

-- the spelling that a row keeps is a valid id
spelled-fit : (id : List ℕ) (rows : List Row) → AllLast rows → is_fit max_id id ≡ true → is_fit max_id (row_spelling id (row_at (folded id) rows)) ≡ true
spelled-fit id rows all fits = elim (row_at (folded id) rows) as (λ o. row_at (folded id) rows ≡ o → is_fit max_id (row_spelling id o) ≡ true) [
  | None ↦ λ e. fits
  | Some x ↦ λ e. (all x (find-Has (λ y. same_key (folded id) (key y)) rows x e).0).back.id
] refl

spelled-index : (id : List ℕ) (rows : List Row) → is_index_id (row_spelling id (row_at (folded id) rows)) ≡ is_index_id id
spelled-index id rows = ap (λ k. starts_with nat_eq k (codes "@index/")) (put_key id rows)

abbrev other_row : Body → ℕ → List ℕ → List ℕ → ℕ → Row
other_row body etag id collection now = record { etag = etag; id = id; collection = collection; body = body; changed = now }

and_false : (b : Bool) → b && false ≡ false
and_false true = refl
and_false false = refl

-- the tombstone of what was deleted, whoever deletes it
deleted-row : (s : Setting) (w : Writer) (now : ℕ) (S : Store) (id : List ℕ) (expected : Expect) (r : Row) → refusal_of s w S (Delete id expected) ≡ None → row_of now S (Delete id expected) ≡ Some r
    → now < moments_end → AllLast S.rows → last S ≤ 9007199254740991 → Lasts r
deleted-row s w now S id expected r h is soon all le =
    elim (document_at S (folded id)) as (λ o. document_at S (folded id) ≡ o → option_map (tombstone (last S + 1) now) o ≡ Some r → Lasts r) [
      | None ↦ λ e g. absurd cc
      | Some d ↦ λ e g.
          let l = all d (find-Has (λ y. same_key (folded id) (key y)) S.rows d (document_found S (folded id) d e)).0 in
          let etag = new_etag s w now S (Delete id expected) r h is le in
          let same : tombstone (last S + 1) now d ≡ r = same_row (tombstone (last S + 1) now d) r g in
          subst Lasts same (record {
            back = record { etag = ap (λ (x : Row). is_etag x.etag) same ∙ etag; id = l.back.id; collection = l.back.collection; changed = soon; body = tt };
            filed = l.filed;
          })
    ] refl is

client-row : (s : Setting) (now : ℕ) (S : Store) (c : Command) (r : Row) → refusal_of s Client S c ≡ None → row_of now S c ≡ Some r → IsCommand c → now < moments_end → AllLast S.rows → last S ≤ 9007199254740991 → Lasts r
client-row s now S (Put id expected body) r h is fits soon all le =
    let free = either_false (is_index_id id) (bytes_eq (collection_of body) (codes "@indexes")) (unreserved s S (Put id expected body) h) in
    let etag = new_etag s Client now S (Put id expected body) r h is le in
    let new : Row = record { etag = last S + 1; id = row_spelling id (row_at (folded id) S.rows); collection = collection_of body; body = doc (stored_body body); changed = now } in
    let same : new ≡ r = same_row new r is in
    subst Lasts same (record {
      back = record {
        etag = ap (λ (x : Row). is_etag x.etag) same ∙ etag;
        id = spelled-fit id S.rows all fits.0;
        collection = named-some (value_at (codes "@metadata" ∷ codes "@collection" ∷ []) body);
        changed = soon;
        body = stored-back body fits.1 (not_large s Client S id expected body h);
      };
      filed = ap (λ b. cond b (is_index_id new.id) (not (is_index_id new.id))) free.1 ∙ ap not (spelled-index id S.rows ∙ free.0);
    })
client-row s now S (Delete id expected) r h is fits soon all le = deleted-row s Client now S id expected r h is soon all le

-- TRANSACTIONS OF CLIENTS

-- a store with which a database can be opened
pub record Stays (S : Store) : Type 0 where
  pub all : AllLast S.rows
  pub etags : last S ≤ 9007199254740991

etag-below : (r : Row) → is_etag r.etag ≡ true → r.etag ≤ 9007199254740991
etag-below r h = leb-true r.etag 9007199254740991 (both_true (nat_lt 0 r.etag) (nat_le r.etag 9007199254740991) h).1

Stays-with : (S : Store) (r : Row) → Stays S → Lasts r → Stays (with_row S r)
Stays-with S r k l = record { all = AllLast-put r S.rows k.all l; etags = let a = last-with S r in let b = etag-below r l.back.etag in omega arith }

same_written : (a b : Written) → (let x : Result Written Refused = Ok a in x) ≡ Ok b → a ≡ b
same_written a b h = cc

pub clients-Stay : (at : ℕ) (s : Setting) (now : ℕ) (cs : List Command) (done new : Written) → commit_from at s Client now cs done ≡ Ok new → AreCommands cs → now < moments_end → Stays done.store → Stays new.store
clients-Stay at s now [] done new h fits soon k = subst (λ (x : Written). Stays x.store) (same_written done new h) k
clients-Stay at s now (c ∷ cs) done new h fits soon k =
    elim (refusal_of s Client done.store c) as (λ o. refusal_of s Client done.store c ≡ o → or_refused o at (commit_from (at + 1) s Client now cs (with_written (row_of now done.store c) done)) ≡ Ok new → Stays new.store) [
      | None ↦ λ e g. elim (row_of now done.store c) as (λ o. row_of now done.store c ≡ o → commit_from (at + 1) s Client now cs (with_written o done) ≡ Ok new → Stays new.store) [
        | None ↦ λ f j. clients-Stay (at + 1) s now cs done new j fits.1 soon k
        | Some r ↦ λ f j. clients-Stay (at + 1) s now cs (with_written (Some r) done) new j fits.1 soon
            (Stays-with done.store r k (client-row s now done.store c r e f fits.0 soon k.all k.etags))
      ] refl g
      | Some kind ↦ λ e g. absurd cc
    ] refl h

-- THE ROW OF A DEFINITION

-- the name in the id of an index's row is the index's name, without regard to case
pub name-under : (r : Row) (name : List ℕ) → folded r.id ≡ folded (index_id name) → folded (name_in r) ≡ folded name
name-under r name h = folded-drop 7 r.id ∙ ap (drop 7) h

server-row : (s : Setting) (now : ℕ) (S : Store) (name : List ℕ) (d : Definition) (r : Row) → refusal_of s Server S (Put (index_id name) AnyVector (row_body d)) ≡ None
    → row_of now S (Put (index_id name) AnyVector (row_body d)) ≡ Some r → IsRequestBody (row_body d) → is_fit 214 name ≡ true → now < moments_end → AllLast S.rows → last S ≤ 9007199254740991 → Lasts r
server-row s now S name d r h is body fit soon all le =
    let etag = new_etag s Server now S (Put (index_id name) AnyVector (row_body d)) r h is le in
    let new : Row = record { etag = last S + 1; id = row_spelling (index_id name) (row_at (folded (index_id name)) S.rows); collection = collection_of (row_body d); body = doc (stored_body (row_body d)); changed = now } in
    let same : new ≡ r = same_row new r is in
    let kept = in_indexes_collection d in
    subst Lasts same (record {
      back = record {
        etag = ap (λ (x : Row). is_etag x.etag) same ∙ etag;
        id = spelled-fit (index_id name) S.rows all (index_id-fit name fit);
        collection = named-some (value_at (codes "@metadata" ∷ codes "@collection" ∷ []) (row_body d));
        changed = soon;
        body = stored-back (row_body d) body (not_large s Server S (index_id name) AnyVector (row_body d) h);
      };
      filed = ap (λ c. cond (bytes_eq c (codes "@indexes")) (is_index_id new.id) (not (is_index_id new.id))) kept ∙ spelled-index (index_id name) S.rows;
    })

-- the Put of a definition that can be stored under its name, or a Delete
pub data IsServed : Command → Type 0 where
  puts : (name : List ℕ) (d : Definition) → IsRequestBody (row_body d) → IsTrue (is_fit 214 name) → IsServed (Put (index_id name) AnyVector (row_body d))
  deletes : (id : List ℕ) → IsServed (Delete id AnyVector)

abbrev pub AreServed : List Command → Type 0
AreServed [] = Unit {0}
AreServed (c ∷ cs) = IsServed c × AreServed cs

served-row : (s : Setting) (now : ℕ) (S : Store) (c : Command) (r : Row) → IsServed c → refusal_of s Server S c ≡ None → row_of now S c ≡ Some r → now < moments_end → Stays S → Lasts r
served-row s now S _ r (puts name d body fit) h is soon k = server-row s now S name d r h is body fit soon k.all k.etags
served-row s now S _ r (deletes id) h is soon k = deleted-row s Server now S id AnyVector r h is soon k.all k.etags

-- the transactions of the server
pub servers-Stay : (at : ℕ) (s : Setting) (now : ℕ) (cs : List Command) (done new : Written) → commit_from at s Server now cs done ≡ Ok new → AreServed cs → now < moments_end → Stays done.store → Stays new.store
servers-Stay at s now [] done new h fits soon k = subst (λ (x : Written). Stays x.store) (same_written done new h) k
servers-Stay at s now (c ∷ cs) done new h fits soon k =
    elim (refusal_of s Server done.store c) as (λ o. refusal_of s Server done.store c ≡ o → or_refused o at (commit_from (at + 1) s Server now cs (with_written (row_of now done.store c) done)) ≡ Ok new → Stays new.store) [
      | None ↦ λ e g. elim (row_of now done.store c) as (λ o. row_of now done.store c ≡ o → commit_from (at + 1) s Server now cs (with_written o done) ≡ Ok new → Stays new.store) [
        | None ↦ λ f j. servers-Stay (at + 1) s now cs done new j fits.1 soon k
        | Some r ↦ λ f j. servers-Stay (at + 1) s now cs (with_written (Some r) done) new j fits.1 soon (Stays-with done.store r k (served-row s now done.store c r fits.0 e f soon k))
      ] refl g
      | Some kind ↦ λ e g. absurd cc
    ] refl h
