-- A transaction: commands of which all are taken or none, what they write, and why they are refused.
use Rattle.std.specs.Prelude.{◌≡◌, ℕ, ◌+◌, List, [], ◌∷◌, ◌++◌, Bool, true, not, ◌&&◌, ◌||◌, ◌==◌, nat_lt, nat_le, nat_eq, if◌then◌else◌, Option, Some, None, is_some, is_none, Result, Ok, Err, length, codes, filter}
use Rattle.std.specs.Option.{option_and_then, option_map}
use Rattle.std.specs.List.{list_any, starts_with}
use Rattle.std.specs.Str.{bytes_eq}
use Rattle.std.specs.Fmt.{decimal}
use Rattle.spec_data.specs.Data.{Data, text, object, no_entries, entries_of, pairs_of}
use Rattle.spec_data.specs.Folding.{folded}
use Rattle.spec_data.specs.Limits.{max_body, max_etag}
use Rattle.spec_data.specs.Members.{member, value_at}
use Rattle.spec_data.specs.Rising.{put}
use Rattle.spec_data.specs.Rows.{Row, doc, gone, is_document}
use Rattle.spec_data.specs.Written.{text_of}
use Rattle.spec_store.specs.Store.{row_at, Store, last, IsStore, with_row, with_rows}
use Rattle.spec_store.specs.Later.{Later}

pub data Expect : Type 0 where
  AnyVector : Expect
  Vector : List ℕ → Expect

pub data Command : Type 0 where
  Put : (id : List ℕ) (expected : Expect) (body : Data) → Command
  Delete : (id : List ℕ) (expected : Expect) → Command

pub data Writer : Type 0 where
  Client Server : Writer

-- what no command changes: the base id and the limits
pub record Setting : Type 0 where
  pub base : List ℕ
  pub max_rows : ℕ
  pub max_slots : ℕ
  pub max_notes : ℕ

pub data Refusal : Type 0 where
  ReservedId : Refusal
  TooLarge : (len : ℕ) → Refusal
  CollectionChanged : (from : List ℕ) → Refusal
  Conflict : (expected found : List ℕ) → Refusal
  StoreFull : (rows : ℕ) → Refusal
  EtagsSpent : (last : ℕ) → Refusal

abbrev pub id_of : Command → List ℕ
id_of (Put id expected body) = id
id_of (Delete id expected) = id

abbrev pub expected_of : Command → Expect
expected_of (Put id expected body) = expected
expected_of (Delete id expected) = expected

abbrev pub vector_of : List ℕ → ℕ → List ℕ
vector_of base etag = codes "A:" ++ (decimal etag ++ (codes "-" ++ base))

-- the collection that the value at @metadata.@collection names: that text if it has a byte, else `@empty`
abbrev pub named_collection : Option Data → List ℕ
named_collection (Some (text [])) = codes "@empty"
named_collection (Some (text (b ∷ bs))) = b ∷ bs
named_collection other = codes "@empty"

abbrev pub collection_of : Data → List ℕ
collection_of body = named_collection (value_at (codes "@metadata" ∷ codes "@collection" ∷ []) body)

-- the members of the metadata that the server writes itself
abbrev pub server_members : List (List ℕ)
server_members = codes "@id" ∷ codes "@change-vector" ∷ codes "@last-modified" ∷ codes "@index-score" ∷ codes "@collection" ∷ []

abbrev pub is_server_member : List ℕ → Bool
is_server_member name = list_any (bytes_eq name) server_members

-- the object without these members; an object without members for any other value
abbrev pub clean_metadata : Option Data → Data
clean_metadata (Some (object ms)) = object (entries_of (filter (λ m. not (is_server_member m.0)) (pairs_of ms)))
clean_metadata other = object no_entries

-- the document that is stored for a body, with clean metadata
abbrev pub stored_body : Data → Data
stored_body (object ms) = object (entries_of (put (codes "@metadata") (clean_metadata (member (codes "@metadata") ms)) (pairs_of ms)))
stored_body other = other

abbrev pub document_at : Store → List ℕ → Option Row
document_at S q = option_and_then (λ r. if is_document r then Some r else None) (row_at q S.rows)

abbrev pub refuse_if : Bool → Refusal → Option Refusal
refuse_if b refusal = if b then Some refusal else None

-- THE TESTS OF ONE COMMAND, in their order

abbrev pub is_index_id : List ℕ → Bool
is_index_id id = starts_with nat_eq (folded id) (codes "@index/")

abbrev pub is_reserved : Command → Bool
is_reserved (Put id expected body) = is_index_id id || bytes_eq (collection_of body) (codes "@indexes")
is_reserved (Delete id expected) = is_index_id id

abbrev pub reserved : Writer → Command → Option Refusal
reserved Client c = refuse_if (is_reserved c) ReservedId
reserved Server c = None

abbrev pub too_large : Command → Option Refusal
too_large (Put id expected body) = let len = length (text_of (stored_body body)) in refuse_if (nat_lt max_body len) (TooLarge len)
too_large (Delete id expected) = None

abbrev pub other_collection : List ℕ → Option Row → Option Refusal
other_collection c None = None
other_collection c (Some r) = refuse_if (not (bytes_eq c r.collection)) (CollectionChanged r.collection)

abbrev pub collection_changed : Store → Command → Option Refusal
collection_changed S (Put id expected body) = other_collection (collection_of body) (row_at (folded id) S.rows)
collection_changed S (Delete id expected) = None

-- the change vector of the document, or the empty text if there is none
abbrev pub live_vector : List ℕ → Option Row → List ℕ
live_vector base None = []
live_vector base (Some r) = vector_of base r.etag

abbrev pub differs : Expect → List ℕ → Option Refusal
differs AnyVector found = None
differs (Vector v) found = refuse_if (not (bytes_eq v found)) (Conflict v found)

abbrev pub conflict : Setting → Store → Command → Option Refusal
conflict s S c = differs (expected_of c) (live_vector s.base (document_at S (folded (id_of c))))

abbrev pub store_full : Setting → Store → Command → Option Refusal
store_full s S (Put id expected body) =
    refuse_if (is_none (row_at (folded id) S.rows) && nat_le s.max_rows (length S.rows)) (StoreFull (length S.rows))
store_full s S (Delete id expected) = None

abbrev pub takes_etag : Store → Command → Bool
takes_etag S (Put id expected body) = true
takes_etag S (Delete id expected) = is_some (document_at S (folded id))

abbrev pub etags_spent : Store → Command → Option Refusal
etags_spent S c = refuse_if (takes_etag S c && (last S == max_etag)) (EtagsSpent (last S))

abbrev pub first_of : List (Option Refusal) → Option Refusal
first_of [] = None
first_of (None ∷ more) = first_of more
first_of (Some refusal ∷ more) = Some refusal

abbrev pub refusal_of : Setting → Writer → Store → Command → Option Refusal
refusal_of s w S c =
    first_of (reserved w c ∷ too_large c ∷ collection_changed S c ∷ conflict s S c ∷ store_full s S c ∷ etags_spent S c ∷ [])

-- WHAT A COMMAND WRITES

abbrev pub row_spelling : List ℕ → Option Row → List ℕ
row_spelling id None = id
row_spelling id (Some r) = r.id

abbrev pub tombstone : ℕ → ℕ → Row → Row
tombstone etag now r = record { etag = etag; id = r.id; collection = r.collection; body = gone; changed = now }

-- the row that a command writes, if any
abbrev pub row_of : ℕ → Store → Command → Option Row
row_of now S (Put id expected body) =
    Some (record {
      etag = last S + 1;
      id = row_spelling id (row_at (folded id) S.rows);
      collection = collection_of body;
      body = doc (stored_body body);
      changed = now;
    })
row_of now S (Delete id expected) = option_map (tombstone (last S + 1) now) (document_at S (folded id))

-- the store after a transaction, and the rows that it wrote
pub record Written : Type 0 where
  pub store : Store
  pub rows : List Row

pub record Refused : Type 0 where
  pub at : ℕ
  pub kind : Refusal

abbrev pub with_written : Option Row → Written → Written
with_written None done = done
with_written (Some r) done = record { store = with_row done.store r; rows = done.rows ++ r ∷ [] }

-- if the command at this place is refused, the whole transaction is
abbrev pub or_refused : Option Refusal → ℕ → Result Written Refused → Result Written Refused
or_refused None at rest = rest
or_refused (Some kind) at rest = Err (record { at = at; kind = kind })

abbrev pub commit_from : ℕ → Setting → Writer → ℕ → List Command → Written → Result Written Refused
commit_from at s w now [] done = Ok done
commit_from at s w now (c ∷ cs) done =
    or_refused (refusal_of s w done.store c) at (commit_from (at + 1) s w now cs (with_written (row_of now done.store c) done))

-- the commands in order, each on the store that those before it leave; the first refusal refuses the transaction
abbrev pub commit : Setting → Writer → ℕ → List Command → Store → Result Written Refused
commit s w now commands S = commit_from 0 s w now commands (record { store = S; rows = [] })

abbrev pub with_option : Store → Option Row → Store
with_option S None = S
with_option S (Some r) = with_row S r

-- the store after a command that is taken
abbrev pub after_command : ℕ → Store → Command → Store
after_command now S c = with_option S (row_of now S c)

-- the store after commands that are taken, one after another
abbrev pub after_commands : ℕ → List Command → Store → Store
after_commands now [] S = S
after_commands now (c ∷ cs) S = after_commands now cs (after_command now S c)

-- for each command in order, the etag that it takes, if any
abbrev pub etags_taken : ℕ → List Command → Store → List (Option ℕ)
etags_taken now [] S = []
etags_taken now (c ∷ cs) S = option_map (λ r. r.etag) (row_of now S c) ∷ etags_taken now cs (after_command now S c)

-- the rows have the etags e + 1, e + 2 and so on
abbrev pub AreNext : ℕ → List Row → Type 0
AreNext e [] = Unit {0}
AreNext e (r ∷ rows) = (r.etag ≡ e + 1) × AreNext r.etag rows

-- what a transaction leaves: a valid store, later than the old one, which is the old one with the written rows under the next etags
pub record Commits (S : Store) (w : Written) : Type 0 where
  pub sound : IsStore w.store
  pub later : Later S w.store
  pub rows : w.store ≡ with_rows S w.rows
  pub next : AreNext (last S) w.rows
