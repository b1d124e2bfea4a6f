-- The replies to questions, which change nothing.
use Rattle.std.specs.Prelude.{ℕ, List, [], Bool, not, ◌&&◌, if◌then◌else◌, Option, Some, None, is_some, length, codes, filter, map}
use Rattle.std.specs.Str.{bytes_eq}
use Rattle.spec_data.specs.Data.{Data, null, object, entries_of, pairs_of}
use Rattle.spec_data.specs.Folding.{folded}
use Rattle.spec_data.specs.Rising.{without}
use Rattle.spec_data.specs.Rows.{Row, doc, gone, is_document}
use Rattle.spec_data.specs.Tables.{Table}
use Rattle.spec_store.specs.Store.{Store, row_at, last}
use Rattle.spec_store.specs.Stale.{stale, newest}
use Rattle.index_tree.specs.Definitions.{Definition}
use Rattle.spec_index.specs.Reduces.{reduce_of}
use Rattle.spec_index.specs.Mapping.{failures, scratch}
use Rattle.index_tree.specs.Mapper.{mapper_of}
use Rattle.spec_server.specs.Replies.{Reply, Listing, Found, NoIndex}
use Rattle.spec_server.specs.Replies as replies
use Rattle.spec_index.specs.World.{Slot, World, reads, index_id}
pub use Rattle.spec_index.specs.World.{is_stale}
use Rattle.spec_index.specs.Find.{found_in}
pub use Rattle.spec_server.specs.Shown.{members_of, shown, shown_metadata}
use Rattle.spec_server.specs.Writes.{spelling}

-- the definition groups its entries by a reduce
abbrev pub has_reduce : Definition → Bool
has_reduce d = is_some (reduce_of d)

-- the ids of what a query finds; the rows of a reduce, which are no documents, have none
abbrev pub ids_found : Definition → Table → List ℕ → List ℕ → List (List ℕ)
ids_found d T name ws = if has_reduce d then [] else found_in (mapper_of d) T name ws

abbrev pub answer_find : World → List ℕ → List ℕ → List ℕ → Option Slot → Reply
answer_find W index name ws None = NoIndex index
answer_find W index name ws (Some s) = Found (ids_found s.version.definition s.version.table name ws) s.version.etag (is_stale W.store s)

abbrev pub answer_stale : World → List ℕ → Option ℕ → Option Slot → Reply
answer_stale W name cutoff None = NoIndex name
answer_stale W name cutoff (Some s) =
    replies.Stale s.version.etag (stale W.store (reads s.version) s.version.etag cutoff) (newest W.store (reads s.version) cutoff)

abbrev pub without_metadata : Data → Data
without_metadata (object ms) = object (entries_of (without (codes "@metadata") (pairs_of ms)))
without_metadata other = other

abbrev pub body_shown : Option Row → Data
body_shown None = null
body_shown (Some r) = elim r.body [ doc d ↦ without_metadata d | gone ↦ null ]

-- the body of the slot's row, of either version, without its metadata; in a sound world each slot has its row
abbrev pub definition_shown : Store → Slot → Data
definition_shown S s = body_shown (row_at (folded (index_id s.name)) S.rows)

-- what is reported of a slot: its entries and failed documents are counted over what it has recorded
abbrev pub listing : Store → Slot → Listing
listing S s = record {
  definition = definition_shown S s;
  entries = length (scratch (mapper_of s.version.definition) s.version.table);
  errors = failures (mapper_of s.version.definition) s.version.table;
  etag = s.version.etag;
  is_stale = is_stale S s;
  name = s.name;
}

-- the slots in order of number
abbrev pub answer_indexes : World → Reply
answer_indexes W = replies.Indexes (map (listing W.store) W.slots)

abbrev pub shown_row : Store → List ℕ → List ℕ → Option Row → Reply
shown_row S base id None = replies.NoDocument (spelling S id)
shown_row S base id (Some r) = elim r.body [ doc d ↦ replies.Document (shown base r d) | gone ↦ replies.NoDocument (spelling S id) ]

abbrev pub answer_get : World → List ℕ → Reply
answer_get W id = shown_row W.store W.setting.base id (row_at (folded id) W.store.rows)

-- the row is no definition: its collection is not `@indexes`
abbrev pub is_client_row : Row → Bool
is_client_row r = not (bytes_eq r.collection (codes "@indexes"))

abbrev pub count_documents : Store → ℕ
count_documents S = length (filter (λ r. is_client_row r && is_document r) S.rows)

abbrev pub count_tombstones : Store → ℕ
count_tombstones S = length (filter (λ r. is_client_row r && not (is_document r)) S.rows)

abbrev pub answer_stats : World → Reply
answer_stats W = replies.Stats (count_documents W.store) (length W.slots) (count_tombstones W.store) (last W.store)
