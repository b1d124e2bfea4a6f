-- What the laws say of queries and of their answers.
use Rattle.std.specs.Prelude.{◌≡◌, ℕ, pos, List, [], true, false, Option, Some, None, IsTrue, map}
use Rattle.std.specs.FinMap.{get}
use Rattle.spec_data.specs.Data.{Data}
use Rattle.spec_data.specs.Rows.{Row, doc, is_document, key}
use Rattle.spec_data.specs.Tables.{Scope, Table}
use Rattle.spec_store.specs.Stale.{up_to}
use Rattle.spec_store.specs.Store.{Store, row_at}
use Rattle.index_tree.specs.Definitions.{Definition}
use Rattle.index_tree.specs.Meaning.{Fields, Entry}
use Rattle.index_tree.specs.Mapper.{mapper_of, scope_of, is_mapped}
use Rattle.index_tree.specs.declared.reduce_query.ReduceQuery.{ReduceQuery}
use Rattle.spec_query.specs.Binding.{columns_of, refusal_of}
use Rattle.spec_query.specs.Condition.{meets}
use Rattle.spec_query.specs.Offering.{offered_of}
use Rattle.spec_query.specs.Parameters.{bound_where}
use Rattle.spec_query.specs.Query as query
use Rattle.spec_query.specs.Query.{OfCollection, OfIndex, is_whole}
use Rattle.spec_query.specs.Results.{in_document, in_row, row_data, selected}
use Rattle.spec_index.specs.Index.{documents, record_of}
use Rattle.spec_index.specs.Mapping.{scratch}
use Rattle.spec_index.specs.Optimiser.{Use, pick}
use Rattle.spec_index.specs.Rows.{key_of, row_of}
use Rattle.spec_index.specs.World.{Slot, World, reads, serving}
use Rattle.spec_server.specs.Asking.{answer_by}
use Rattle.spec_server.specs.Shapes.{shape_asked}
use Rattle.spec_server.specs.Replies.{Reply, Answer}
use Rattle.spec_server.specs.Requests.{Do, Ask, takes_all}
use Rattle.spec_server.specs.Courses.{Machine}
use Rattle.spec_server.specs.Machine.{step}
use Rattle.spec_server.specs.Shown.{shown}

abbrev pub query_reply : Machine → query.Ask → Reply
query_reply M ask = (step M takes_all 0 (Do (Ask ask))).reply

-- the results of an answer
abbrev pub results_in : Reply → List Data
results_in (Answer answer) = answer.results
results_in other = []

-- the query is on the index of a name, and this one serves the name; or it is on a collection, and this automatic index is picked for it
pub data AsksIndex (W : World) (ask : query.Ask) (s : Slot) : Type 0 where
  by_name : (name : List ℕ) → ask.query.origin ≡ OfIndex name → serving W.slots name ≡ Some s → AsksIndex W ask s
  by_shape : (collection : List ℕ) → ask.query.origin ≡ OfCollection collection → is_whole ask.query ≡ false
      → pick (shape_asked collection ask.query) W.store W.slots ≡ Use s → AsksIndex W ask s

-- the index has the fields that the query names, and nothing else of it is refused
abbrev pub FitsIndex : query.Ask → Slot → Type 0
FitsIndex ask s = refusal_of ask (offered_of s.version.definition) ≡ None

-- without a page the results are of all rows that the query finds
pub record HasNoPage (ask : query.Ask) : Type 0 where
  pub start : ask.start ≡ pos 0
  pub size : ask.size ≡ None

-- without groups, columns and a page: all that the query finds, whole
pub record AsksForAll (ask : query.Ask) : Type 0 where
  pub groups : ask.query.groups ≡ []
  pub columns : ask.query.columns ≡ []
  pub start : ask.start ≡ pos 0
  pub size : ask.size ≡ None

-- the row is a document of the store, which is shown with the columns that the query selects, or whole without them
pub record IsShown (W : World) (ask : query.Ask) (r : Row) (d : Data) : Type 0 where
  pub found : row_at (key r) W.store.rows ≡ Some r
  pub body : Data
  pub document : r.body ≡ doc body
  pub shows : selected (shown W.setting.base r body) (in_document body) (columns_of ask.query.groups ask.query.columns) ≡ d

-- a document of the store that the map of the definition gives an entry, which meets the condition of the query
pub record IsFound (W : World) (definition : Definition) (ask : query.Ask) (d : Data) : Type 0 where
  pub row : Row
  pub document : IsShown W ask row d
  pub mapped : IsTrue (is_mapped (mapper_of definition) row)
  pub fields : Fields
  pub gives : ((mapper_of definition).meaning row (documents (scope_of (mapper_of definition)) W.store)).outcome ≡ Entry fields
  pub passes : IsTrue (meets (bound_where ask.parameters ask.query.cond) false fields)

-- THE ROWS OF A REDUCE

-- the map of the definition gives a document of the store this entry
pub record IsEntry (W : World) (definition : Definition) (fields : Fields) : Type 0 where
  pub row : Row
  pub found : row_at (key row) W.store.rows ≡ Some row
  pub document : IsTrue (is_document row)
  pub mapped : IsTrue (is_mapped (mapper_of definition) row)
  pub gives : ((mapper_of definition).meaning row (documents (scope_of (mapper_of definition)) W.store)).outcome ≡ Entry fields

-- the entries of all documents of the store, one for each that is given one
abbrev pub entries_in : World → Definition → List Fields
entries_in W definition = map (λ e. e.1) (scratch (mapper_of definition) (documents (scope_of (mapper_of definition)) W.store))

-- The row of a key that an entry of the store's documents has: made of all entries with this key. It meets the condition of the query, and is shown
-- with the columns that the query selects, or whole without them.
pub record IsRowOfKey (W : World) (definition : Definition) (reduce : ReduceQuery) (ask : query.Ask) (d : Data) : Type 0 where
  pub entry : Fields
  pub given : IsEntry W definition entry
  pub row : Fields
  pub of_key : row_of reduce (entries_in W definition) (key_of reduce.key entry) ≡ row
  pub passes : IsTrue (meets (bound_where ask.parameters ask.query.cond) false row)
  pub shows : selected (row_data row) (in_row row) (columns_of ask.query.groups ask.query.columns) ≡ d

-- WHOLE COLLECTIONS

-- a document of the store in this collection
pub record IsInCollection (W : World) (ask : query.Ask) (collection : List ℕ) (d : Data) : Type 0 where
  pub row : Row
  pub document : IsShown W ask row d
  pub inside : row.collection ≡ collection

-- UP TO A CUTOFF

-- For each row of the store up to the cutoff the table has exactly what an index records of it: the document, if the index reads it, and nothing of any
-- other row.
abbrev pub IsWholeUpTo : Option ℕ → Scope → Store → Table → Type 0
IsWholeUpTo cutoff scope S T = (q : List ℕ) (r : Row) → row_at q S.rows ≡ Some r → up_to cutoff r.etag ≡ true → get T q ≡ record_of scope r

-- the query is answered from what the index has recorded, and that is whole up to the cutoff of the query
pub record IsAnsweredUpTo (M : Machine) (ask : query.Ask) (s : Slot) : Type 0 where
  pub table : Table
  pub answer : query_reply M ask ≡ answer_by table M.world ask s
  pub whole : IsWholeUpTo ask.cutoff (reads s.version) M.world.store table
