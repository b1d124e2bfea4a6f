-- What the laws claim of the answers of a machine.
use Rattle.std.specs.Prelude.{◌≡◌, ℕ, List, [], true, false, Some, None, IsTrue, ◌↔◌}
use Rattle.spec_data.specs.Data.{Data}
use Rattle.spec_data.specs.Folding.{folded}
use Rattle.spec_data.specs.Rows.{Row, is_document}
use Rattle.spec_store.specs.Stale.{stale}
use Rattle.spec_store.specs.Store.{row_at, Store}
use Rattle.spec_query.specs.Binding.{check}
use Rattle.spec_query.specs.Query as query
use Rattle.spec_query.specs.Query.{OfCollection, is_whole}
use Rattle.spec_index.specs.Index.{documents}
use Rattle.index_tree.specs.Definitions.{Definition}
use Rattle.index_tree.specs.Meaning.{Fields, Entry}
use Rattle.index_tree.specs.Mapper.{mapper_of, scope_of, is_mapped}
use Rattle.index_tree.specs.declared.reduce_query.ReduceQuery.{ReduceQuery}
use Rattle.spec_index.specs.Reduces.{reduce_of}
use Rattle.spec_index.specs.World.{Slot, reads, serving}
use Rattle.spec_server.specs.Asking.{answer_by}
use Rattle.spec_server.specs.Replies.{Reply, Found}
use Rattle.spec_server.specs.Requests.{Do, Find, takes_all}
use Rattle.spec_server.specs.Courses.{Machine}
use Rattle.spec_server.specs.Answers.{has_reduce, ids_found, is_stale}
use Rattle.spec_server.specs.Machine.{step}
use Rattle.spec_index.specs.Find.{field_is_text}
use Rattle.spec_server.specs.Sound.{Has}
use Rattle.raven_laws.specs.Queries.{AsksForAll, AsksIndex, FitsIndex, HasNoPage, IsAnsweredUpTo, IsFound, IsInCollection, IsRowOfKey, query_reply, results_in}

-- IDS OF A FIND

-- the id is spelled as the store spells it
pub record IsSpelledAsStored (S : Store) (id : List ℕ) : Type 0 where
  pub row : Row
  pub found : row_at (folded id) S.rows ≡ Some row
  pub spelled : row.id ≡ id

-- A document of the store that the map of the definition gives an entry, and whose field is the text. If the definition has a reduce, there is
-- none: its index has rows in place of documents.
pub record IsMatch (S : Store) (d : Definition) (field words id : List ℕ) : Type 0 where
  pub row : Row
  pub found : row_at (folded id) S.rows ≡ Some row
  pub spelled : row.id ≡ id
  pub document : IsTrue (is_document row)
  pub mapped : IsTrue (is_mapped (mapper_of d) row)
  pub fields : Fields
  pub gives : ((mapper_of d).meaning row (documents (scope_of (mapper_of d)) S)).outcome ≡ Entry fields
  pub matches : IsTrue (field_is_text field words fields)
  pub ungrouped : has_reduce d ≡ false

-- the ids of an answer
abbrev pub ids_in : Reply → List (List ℕ)
ids_in (Found ids etag is_stale) = ids
ids_in other = []

abbrev pub find_reply : Machine → List ℕ → List ℕ → List ℕ → Reply
find_reply M index field words = (step M takes_all 0 (Do (Find index field words))).reply

-- each id of an answer is spelled as the store spells it
abbrev pub IdsAreSpelledAsStored : Machine → Type 0
IdsAreSpelledAsStored M = (index field words id : List ℕ) → Has (ids_in (find_reply M index field words)) id → IsSpelledAsStored M.world.store id

-- FRESH ANSWERS

-- An index that is not stale answers what its map gives for all documents of the store. If it has a reduce, a FIND has no ids, and a query is
-- answered by the rows of the groups.
pub record FreshIsFromScratch (M : Machine) : Type 0 where
  pub find : (index field words : List ℕ) (s : Slot) → serving M.world.slots index ≡ Some s → is_stale M.world.store s ≡ false
      → find_reply M index field words ≡ Found (ids_found s.version.definition (documents (reads s.version) M.world.store) field words) s.version.etag false
  pub asked : (ask : query.Ask) (s : Slot) → AsksIndex M.world ask s → is_stale M.world.store s ≡ false
      → query_reply M ask ≡ answer_by (documents (reads s.version) M.world.store) M.world ask s

-- So a FIND has exactly the ids of the documents that match, and a query without a page has exactly the documents that it finds. If the index has
-- a reduce, it has exactly the rows of the keys that the entries of the store's documents have, also if it groups by them. An index that is not stale up to the cutoff of a
-- query answers it from exactly the documents up to the cutoff, and from what it has recorded of newer rows. A query on a whole collection reads no
-- index: it has exactly the documents of the collection, and is not refused if it asks for all.
pub record FreshIsExact (M : Machine) : Type 0 where
  pub find : (index field words id : List ℕ) (s : Slot) → serving M.world.slots index ≡ Some s → is_stale M.world.store s ≡ false
      → Has (ids_in (find_reply M index field words)) id ↔ IsMatch M.world.store s.version.definition field words id
  pub asked : (ask : query.Ask) (s : Slot) (d : Data) → AsksIndex M.world ask s → FitsIndex ask s → HasNoPage ask
      → is_stale M.world.store s ≡ false → has_reduce s.version.definition ≡ false
      → Has (results_in (query_reply M ask)) d ↔ IsFound M.world s.version.definition ask d
  pub grouped : (ask : query.Ask) (s : Slot) (reduce : ReduceQuery) (d : Data) → AsksIndex M.world ask s → FitsIndex ask s → HasNoPage ask
      → is_stale M.world.store s ≡ false → reduce_of s.version.definition ≡ Some reduce
      → Has (results_in (query_reply M ask)) d ↔ IsRowOfKey M.world s.version.definition reduce ask d
  pub cutoff : (ask : query.Ask) (s : Slot) → AsksIndex M.world ask s → stale M.world.store (reads s.version) s.version.etag ask.cutoff ≡ false
      → IsAnsweredUpTo M ask s
  pub collection : (ask : query.Ask) (name : List ℕ) (d : Data) → ask.query.origin ≡ OfCollection name → is_whole ask.query ≡ true → check ask ≡ None → HasNoPage ask
      → Has (results_in (query_reply M ask)) d ↔ IsInCollection M.world ask name d
  pub unrefused : (ask : query.Ask) → is_whole ask.query ≡ true → AsksForAll ask → check ask ≡ None
