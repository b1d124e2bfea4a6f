-- How the maps of a store show its rows.
use Rattle.std.specs.Prelude.{◌≡◌, ℕ, ◌+◌, List, [], ◌∷◌, Bool, true, false, Option, Some, None, if◌then◌else◌, not, nat_lt, map, filter, length, option_map, unwrap_or}
use Rattle.std.specs.Str.{bytes_eq}
use Rattle.std.specs.Ordering.{is_le, is_lt, nat_cmp, on}
use Rattle.std.specs.declared.cmp.Ordering.{Ordering}
use Rattle.std.specs.FinMap.{from_entries, values}
use Rattle.std.specs.Map.{lookup, remove_entry}
use Rattle.std.specs.BTreeMap.{insert_entry, is_at}
use Rattle.paged_map.specs.Pairs.{IsRising}
use Rattle.spec_data.specs.Folding.{folded, key_cmp, same_key}
use Rattle.spec_data.specs.Rows.{Row, is_document, key}
use Rattle.spec_store.specs.Store.{row_at, last_of}
use Rattle.doc_store.specs.Bounds.{AreCleaned, AreKept, AreRows}

-- ids are ordered by their folded forms
abbrev pub id_cmp : List ℕ → List ℕ → Ordering
id_cmp = on folded key_cmp

-- the rows of a map
abbrev pub rows_in : {K : Type 0} → List (K × Row) → List Row
rows_in pairs = map (λ e. e.1) pairs

-- each row is under its own id
abbrev pub AreFiled : List (List ℕ × Row) → Type 0
AreFiled [] = Unit {0}
AreFiled (e ∷ es) = (folded e.0 ≡ key e.1) × AreFiled es

-- rows under their ids
abbrev pub by_id : List Row → List (List ℕ × Row)
by_id rows = map (λ r. (r.id, r)) rows

-- rows under their etags
abbrev pub by_etag : List Row → List (ℕ × Row)
by_etag rows = map (λ r. (r.etag, r)) rows

-- rows in order of etag
unfoldable pub ordered_by_etag : List Row → List Row
ordered_by_etag rows = values (from_entries {R = nat_cmp} (by_etag rows))

-- the pairs without the one at an etag, if one is given
abbrev pub without_etag : Option ℕ → List (ℕ × Row) → List (ℕ × Row)
without_etag None pairs = pairs
without_etag (Some etag) pairs = remove_entry (is_at (nat_cmp etag)) pairs

-- the etag of a row, if there is one
abbrev pub etag_in : Option Row → Option ℕ
etag_in row = option_map (λ r. r.etag) row

-- of two rows the one with the lower etag, or the only one
abbrev pub earlier : Option Row → Option Row → Option Row
earlier None b = b
earlier (Some a) None = Some a
earlier (Some a) (Some b) = if nat_lt b.etag a.etag then Some b else Some a

-- there is a row, and it is a document
abbrev pub is_document_in : Option Row → Bool
is_document_in None = false
is_document_in (Some r) = is_document r

-- the rows but that of a folded id
abbrev pub without_key : List ℕ → List Row → List Row
without_key k rows = filter (λ x. not (same_key k (key x))) rows

-- those of the rows that are tombstones
abbrev pub tombstones : List Row → List Row
tombstones rows = filter (λ r. not (is_document r)) rows

-- the row, if there is one and it is a tombstone
abbrev pub tombstone_in : Option Row → Option Row
tombstone_in None = None
tombstone_in (Some r) = if is_document r then None else Some r

-- the pairs with a row under its etag, if it is a tombstone
abbrev pub with_tombstone : Row → List (ℕ × Row) → List (ℕ × Row)
with_tombstone r pairs = if is_document r then pairs else insert_entry nat_cmp pairs r.etag r

abbrev pub is_of : List ℕ → Row → Bool
is_of collection r = bytes_eq r.collection collection

-- the rows that a map has for a collection
abbrev pub rows_of : List (List ℕ × List Row) → List ℕ → List Row
rows_of collections c = unwrap_or (lookup (is_at (key_cmp c)) collections) []

-- how many rows of the other collections pass a test
abbrev pub passing_beside : (Row → Bool) → List ℕ → List (List ℕ × List Row) → ℕ
passing_beside p c [] = 0
passing_beside p c (e ∷ es) = (if bytes_eq e.0 c then 0 else length (filter p e.1)) + passing_beside p c es

-- no row is of a collection below this one
abbrev pub NoneBelow : List ℕ → List Row → Type 0
NoneBelow c [] = Unit {0}
NoneBelow c (r ∷ rows) = (is_lt (key_cmp r.collection c) ≡ false) × NoneBelow c rows

-- rows in order of their collections
abbrev pub AreByCollection : List Row → Type 0
AreByCollection [] = Unit {0}
AreByCollection (r ∷ rows) = NoneBelow r.collection rows × AreByCollection rows

-- the id of the row is this one or past it
abbrev pub is_from : Option (List ℕ) → Row → Bool
is_from None r = false
is_from (Some id) r = is_le (id_cmp id r.id)

-- no id is before this one; without an id there are no rows
abbrev pub AreFrom : Option (List ℕ) → List Row → Type 0
AreFrom id [] = Unit {0}
AreFrom id (r ∷ rows) = (is_from id r ≡ true) × AreFrom id rows

-- a map shows these rows under their etags, the etag of the last of them is this, so many are documents, and no id is before this one
pub record ShowsByEtag (etags : List (ℕ × Row)) (last documents : ℕ) (least : Option (List ℕ)) (rows : List Row) : Type 0 where
  pub store : AreRows rows
  pub pairs : etags ≡ by_etag rows
  pub last_is : last ≡ last_of 0 rows
  pub documents_are : documents ≡ length (filter is_document rows)
  pub from : AreFrom least rows

-- the maps show these rows: by id each row, and by collection the list of its rows; and the etag of the last of them is this
pub record Shows (ids : List (List ℕ × Row)) (collections : List (List ℕ × List Row)) (last : ℕ) (rows : List Row) : Type 0 where
  pub kept : AreKept rows
  pub rising : IsRising id_cmp ids
  pub filed : AreFiled ids
  pub by_ids : (q : List ℕ) → lookup (is_at (id_cmp q)) ids ≡ row_at (folded q) rows
  pub by_collections : (c : List ℕ) → rows_of collections c ≡ filter (is_of c) rows
  pub last_is : last ≡ last_of 0 rows

-- the maps and what is cleaned show a store of these rows: a third map has the tombstones under their etags
pub record ShowsStore (ids : List (List ℕ × Row)) (collections : List (List ℕ × List Row)) (gone : List (ℕ × Row)) (last cleaned : ℕ) (rows : List Row) : Type 0 where
  pub shows : Shows ids collections last rows
  pub gone_are : gone ≡ by_etag (tombstones rows)
  pub cleaned_is : AreCleaned cleaned rows
