-- Replies, and how they are printed.
use Rattle.std.specs.Prelude.{ℕ, pos, List, [], ◌∷◌, ◌++◌, Bool, codes, map}
use Rattle.spec_data.specs.Data.{Data, flag, num, text, array, object, items_of, entries_of}
use Rattle.spec_data.specs.Rising.{Pairs}
use Rattle.spec_data.specs.Written.{text_of}
use Rattle.index_tree.specs.Language.{LangRefusal, kind_name, part_name}
use Rattle.spec_query.specs.Binding.{PlanRefusal, NoParameter, NotGrouped, BadPage, NoField}
use Rattle.spec_query.specs.Refusals.{QueryRefusal}
use Rattle.spec_query.specs.Refusals as query

-- what one command of a transaction did
pub data Result : Type 0 where
  Put : (change_vector id : List ℕ) → Result
  Deleted : (deleted : Bool) (id : List ℕ) → Result

-- a batch of an index: its etag before, its name, and its etag after
pub record Pumping : Type 0 where
  pub from : ℕ
  pub index : List ℕ
  pub to : ℕ

-- what is reported of an index
pub record Listing : Type 0 where
  pub definition : Data
  pub entries : ℕ
  pub errors : ℕ
  pub etag : ℕ
  pub is_stale : Bool
  pub name : List ℕ

-- what is found by a query: the included documents under their ids, the results of the page, and how many rows meet the condition
pub record QueryAnswer : Type 0 where
  pub includes : Pairs
  pub index_etag : ℕ
  pub index_name : List ℕ
  pub is_stale : Bool
  pub results : List Data
  pub total : ℕ

pub data Reply : Type 0 where
  Put : (change_vector id : List ℕ) → Reply
  Deleted : (deleted : Bool) (id : List ℕ) → Reply
  Bulk : (results : List Result) → Reply
  Document : (document : Data) → Reply
  Index : (name : List ℕ) → Reply
  -- several indexes were defined
  Defined : (names : List (List ℕ)) → Reply
  Removed : (name : List ℕ) → Reply
  Found : (ids : List (List ℕ)) (index_etag : ℕ) (is_stale : Bool) → Reply
  Answer : QueryAnswer → Reply
  Pumped : (pumped : List Pumping) → Reply
  -- a name was switched: the etag of the row that was put
  Switched : (etag : ℕ) (name : List ℕ) → Reply
  -- the names of the indexes that went, and the names that were switched
  Tidied : (retired switched : List (List ℕ)) → Reply
  -- a worker holds a batch, or nothing if both etags are the same
  Held : (from to : ℕ) → Reply
  -- a batch was published: the etag of its index before, its name, and its etag now
  Published : (from : ℕ) (index : List ℕ) (to : ℕ) → Reply
  -- how many tombstones went, and the etag up to which they may go
  CleanDone : (cleaned upto : ℕ) → Reply
  Stale : (index_etag : ℕ) (is_stale : Bool) (newest : ℕ) → Reply
  Indexes : (results : List Listing) → Reply
  Stats : (documents indexes tombstones last : ℕ) → Reply
  -- refusals of a line
  UnknownLine : Reply
  NotJson NumberNotWhole TooDeep : Reply
  Empty : Reply
  TooLong : (len : ℕ) → Reply
  Control : (at : ℕ) → Reply
  BadMember : (name : List ℕ) → Reply
  -- the document or the index is not there
  NoDocument : (id : List ℕ) → Reply
  NoIndex : (name : List ℕ) → Reply
  -- the index of this number, a part of an index of several maps, has another reduce than its first part
  NotOneReduce : (number : ℕ) → Reply
  -- refusals of a query: of its text, and of what it asks
  BadQuery : QueryRefusal → Reply
  BadPlan : PlanRefusal → Reply
  -- refusals of a definition
  Lang : LangRefusal → Reply
  ReservedName : Reply
  NameTooLong : (len : ℕ) → Reply
  TooManyIndexes : Reply
  -- refusals of a switch
  NoReplacement NotesFull : Reply
  NotFresh : (index_etag newest : ℕ) → Reply
  -- refusals of a publication
  NothingHeld : Reply
  Gone : (number : ℕ) → Reply
  Passed : (now : ℕ) → Reply
  -- tombstones that the batch may not have seen were cleaned up to this etag since it was read
  Cleaned : (upto : ℕ) → Reply
  -- refusals of a transaction, each with the place of the command
  ReservedId : (at : ℕ) → Reply
  TooLarge : (at len : ℕ) → Reply
  CollectionChanged : (at : ℕ) (from : List ℕ) → Reply
  Conflict : (at : ℕ) (expected found : List ℕ) → Reply
  StoreFull : (at rows : ℕ) → Reply
  EtagsSpent : (at last : ℕ) → Reply
  -- the keeper failed: its counts of faults before and after
  KeeperFault : (before after : ℕ) → Reply

abbrev pub number : ℕ → Data
number n = num (pos n)

abbrev pub texts : List (List ℕ) → Data
texts list = array (items_of (map text list))

abbrev pub members : List (List ℕ × Data) → Data
members list = object (entries_of list)

abbrev pub result_data : Result → Data
result_data (Result.Put vector id) = members ((codes "ChangeVector", text vector) ∷ (codes "Id", text id) ∷ (codes "Type", text (codes "PUT")) ∷ [])
result_data (Result.Deleted deleted id) = members ((codes "Deleted", flag deleted) ∷ (codes "Id", text id) ∷ (codes "Type", text (codes "DELETE")) ∷ [])

abbrev pub pumping_data : Pumping → Data
pumping_data p = members ((codes "From", number p.from) ∷ (codes "Index", text p.index) ∷ (codes "To", number p.to) ∷ [])

abbrev pub listing_data : Listing → Data
listing_data l = members (
    (codes "Definition", l.definition)
    ∷ (codes "Entries", number l.entries)
    ∷ (codes "Errors", number l.errors)
    ∷ (codes "Etag", number l.etag)
    ∷ (codes "IsStale", flag l.is_stale)
    ∷ (codes "Name", text l.name)
    ∷ [])

abbrev pub error : List ℕ → List (List ℕ × Data) → Data
error name more = members ((codes "Error", text name) ∷ more)

-- a refusal of the command at this place
abbrev pub error_at : ℕ → List ℕ → List (List ℕ × Data) → Data
error_at at name more = members ((codes "At", number at) ∷ (codes "Error", text name) ∷ more)

abbrev pub answer_data : QueryAnswer → Data
answer_data a = members (
    (codes "Includes", object (entries_of a.includes))
    ∷ (codes "IndexEtag", number a.index_etag)
    ∷ (codes "IndexName", text a.index_name)
    ∷ (codes "IsStale", flag a.is_stale)
    ∷ (codes "Results", array (items_of a.results))
    ∷ (codes "TotalResults", number a.total)
    ∷ [])

abbrev pub plan_refusal_data : PlanRefusal → Data
plan_refusal_data (NoParameter name) = error (codes "NoParameter") ((codes "Name", text name) ∷ [])
plan_refusal_data (NotGrouped name) = error (codes "NotGrouped") ((codes "Name", text name) ∷ [])
plan_refusal_data BadPage = error (codes "BadPage") []
plan_refusal_data (NoField name) = error (codes "NoField") ((codes "Name", text name) ∷ [])

abbrev pub reply_data : Reply → Data
reply_data (Put vector id) = members ((codes "ChangeVector", text vector) ∷ (codes "Id", text id) ∷ [])
reply_data (Deleted deleted id) = members ((codes "Deleted", flag deleted) ∷ (codes "Id", text id) ∷ [])
reply_data (Bulk results) = members ((codes "Results", array (items_of (map result_data results))) ∷ [])
reply_data (Document document) = document
reply_data (Index name) = members ((codes "Index", text name) ∷ [])
reply_data (Defined names) = members ((codes "Indexes", texts names) ∷ [])
reply_data (Removed name) = members ((codes "Removed", text name) ∷ [])
reply_data (Found ids etag is_stale) = members ((codes "Ids", texts ids) ∷ (codes "IndexEtag", number etag) ∷ (codes "IsStale", flag is_stale) ∷ [])
reply_data (Answer answer) = answer_data answer
reply_data (Pumped pumped) = members ((codes "Pumped", array (items_of (map pumping_data pumped))) ∷ [])
reply_data (Switched etag name) = members ((codes "Etag", number etag) ∷ (codes "Switched", text name) ∷ [])
reply_data (Tidied retired switched) = members ((codes "Retired", texts retired) ∷ (codes "Switched", texts switched) ∷ [])
reply_data (Held from to) = members ((codes "From", number from) ∷ (codes "To", number to) ∷ [])
reply_data (Published from index to) = members ((codes "From", number from) ∷ (codes "Index", text index) ∷ (codes "To", number to) ∷ [])
reply_data (CleanDone cleaned upto) = members ((codes "Cleaned", number cleaned) ∷ (codes "Upto", number upto) ∷ [])
reply_data (Stale etag is_stale newest) = members ((codes "IndexEtag", number etag) ∷ (codes "IsStale", flag is_stale) ∷ (codes "Newest", number newest) ∷ [])
reply_data (Indexes results) = members ((codes "Results", array (items_of (map listing_data results))) ∷ [])
reply_data (Stats documents indexes tombstones last) =
    members ((codes "CountOfDocuments", number documents) ∷ (codes "CountOfIndexes", number indexes) ∷ (codes "CountOfTombstones", number tombstones) ∷ (codes "LastDocEtag", number last) ∷ [])
reply_data UnknownLine = error (codes "UnknownLine") []
reply_data NotJson = error (codes "NotJson") []
reply_data NumberNotWhole = error (codes "NumberNotWhole") []
reply_data TooDeep = error (codes "TooDeep") []
reply_data Empty = error (codes "Empty") []
reply_data (TooLong len) = error (codes "TooLong") ((codes "Len", number len) ∷ [])
reply_data (Control at) = error_at at (codes "Control") []
reply_data (BadMember name) = error (codes "BadMember") ((codes "Name", text name) ∷ [])
reply_data (NoDocument id) = error (codes "NoDocument") ((codes "Id", text id) ∷ [])
reply_data (NoIndex name) = error (codes "NoIndex") ((codes "Name", text name) ∷ [])
reply_data (NotOneReduce number) = error (codes "NotOneReduce") ((codes "Number", num (pos number)) ∷ [])
reply_data (BadQuery refusal) = error_at refusal.at (query.kind_name refusal.kind) []
reply_data (BadPlan refusal) = plan_refusal_data refusal
reply_data (Lang refusal) = members ((codes "At", number refusal.at) ∷ (codes "Error", text (kind_name refusal.kind)) ∷ (codes "Part", text (part_name refusal.part)) ∷ [])
reply_data ReservedName = error (codes "ReservedName") []
reply_data (NameTooLong len) = error (codes "NameTooLong") ((codes "Len", number len) ∷ [])
reply_data TooManyIndexes = error (codes "TooManyIndexes") []
reply_data NoReplacement = error (codes "NoReplacement") []
reply_data NotesFull = error (codes "NotesFull") []
reply_data (NotFresh index_etag newest) = error (codes "NotFresh") ((codes "IndexEtag", number index_etag) ∷ (codes "Newest", number newest) ∷ [])
reply_data NothingHeld = error (codes "NothingHeld") []
reply_data (Gone n) = error (codes "Gone") ((codes "Number", number n) ∷ [])
reply_data (Passed now) = error (codes "Passed") ((codes "Now", number now) ∷ [])
reply_data (Cleaned upto) = error (codes "Cleaned") ((codes "Upto", number upto) ∷ [])
reply_data (ReservedId at) = error_at at (codes "ReservedId") []
reply_data (TooLarge at len) = error_at at (codes "TooLarge") ((codes "Len", number len) ∷ [])
reply_data (CollectionChanged at from) = error_at at (codes "CollectionChanged") ((codes "From", text from) ∷ [])
reply_data (Conflict at expected found) = error_at at (codes "Conflict") ((codes "Expected", text expected) ∷ (codes "Found", text found) ∷ [])
reply_data (StoreFull at rows) = error_at at (codes "StoreFull") ((codes "Rows", number rows) ∷ [])
reply_data (EtagsSpent at last) = error_at at (codes "EtagsSpent") ((codes "Last", number last) ∷ [])
reply_data (KeeperFault before after) = error (codes "KeeperFault") []

-- the reply as one line
abbrev pub printed : Reply → List ℕ
printed reply = text_of (reply_data reply) ++ 10 ∷ []
