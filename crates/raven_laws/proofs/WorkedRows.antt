-- Examples that were worked out by hand: the replies to requests, and what is printed.
use Rattle.std.proofs.Common.{◌≡◌, ℕ, List, [], ◌∷◌, ◌++◌, replicate, true, false, Some, None, filter, refl, ap, codes}
use Rattle.std.specs.List.{filter_map}
use Rattle.std.specs.Fmt.{digits}
use Rattle.std.specs.FinMap.{empty}
use Rattle.spec_data.specs.Data.{object, text, entry, no_entries}
use Rattle.spec_data.specs.Moments.{moment_text, day_from, day_in, day_text}
use Rattle.spec_data.specs.Rows.{Row, doc}
use Rattle.index_tree.specs.Definitions.{Definition}
use Rattle.index_tree.specs.Trees.{Dot, Var}
use Rattle.index_tree.specs.Mapper.{Mapper, mapper_of, is_mapped}
use Rattle.spec_index.specs.Mapping.{entry_of}
use Rattle.spec_query.specs.Binding.{NoParameter, BadPage}
use Rattle.spec_query.specs.Refusals as query
use Rattle.spec_store.specs.Commit.{Command, AnyVector, Vector}
use Rattle.spec_index.specs.World.{row_body}
use Rattle.spec_store.specs.Commit.{stored_body}
use Rattle.spec_server.specs.Answers.{without_metadata}
use Rattle.spec_server.specs.Replies.{Result as Done, Reply, Index, Indexes, Removed, ReservedName, NameTooLong, Pumped, Pumping, Found, Answer, BadQuery, BadPlan, NoIndex, UnknownLine, Stale, Stats, Document, NoDocument, Deleted, CollectionChanged, ReservedId, Conflict, TooLong, KeeperFault, printed}
use Rattle.spec_server.specs.Requests.{Request, Do, Put, Delete, Bulk, Get, Define, Remove, Auto, Find, Pump, Stale as AskStale, Stats as AskStats, takes_all}
use Rattle.spec_server.specs.Courses.{Machine}
use Rattle.spec_server.specs.Machine.{start, step}
use Rattle.spec_index.specs.Find.{found}
use Rattle.spec_store.specs.Limits.{program}
use Rattle.spec_store.proofs.KeyedLemmas.{values-table_of}

-- REQUESTS, one after another, from an empty database

abbrev pub replies_from : Machine → List Request → List Reply
replies_from M [] = []
replies_from M (r ∷ rs) = (step M takes_all 0 (Do r)).reply ∷ replies_from (step M takes_all 0 (Do r)).machine rs

abbrev pub replies : List Request → List Reply
replies rs = replies_from (start program) rs

-- a document of the collection with one further member
abbrev pub put : List ℕ → List ℕ → List ℕ → List ℕ → Request
put collection id name value = Put id AnyVector (object (entry (codes "@metadata") (object (entry (codes "@collection") (text collection) no_entries)) (entry name (text value) no_entries)))

abbrev pub was_put : List ℕ → List ℕ → Reply
was_put etag id = Reply.Put (codes "A:" ++ etag ++ codes "-AAAAAAAAAAAAAAAAAAAAAA") id

abbrev pub moved : ℕ → List ℕ → ℕ → Pumping
moved from name to = record { from = from; index = name; to = to }

-- one of two rows is taken, and the etag stays below the one that remains
one_at_a_time : replies (Auto (codes "C") (codes "F") ∷ put (codes "C") (codes "x") (codes "F") (codes "a") ∷ put (codes "C") (codes "y") (codes "F") (codes "b") ∷ put (codes "C") (codes "X") (codes "F") (codes "c") ∷ Pump 1 None ∷ Pump 1 None ∷ Pump 1 None ∷ [])
    ≡ Index (codes "Auto/C/ByF") ∷ was_put (codes "2") (codes "x") ∷ was_put (codes "3") (codes "y") ∷ was_put (codes "4") (codes "x")
    ∷ Pumped (moved 0 (codes "Auto/C/ByF") 3 ∷ []) ∷ Pumped (moved 3 (codes "Auto/C/ByF") 4 ∷ []) ∷ Pumped (moved 4 (codes "Auto/C/ByF") 4 ∷ []) ∷ []
unfolding digits
one_at_a_time = refl

-- a row of another collection moves no index, until a row that it reads is taken
other_collection : replies (Auto (codes "C") (codes "F") ∷ put (codes "D") (codes "x") (codes "F") (codes "a") ∷ Pump 64 None ∷ put (codes "C") (codes "y") (codes "F") (codes "b") ∷ put (codes "D") (codes "z") (codes "F") (codes "c") ∷ Pump 1 None ∷ [])
    ≡ Index (codes "Auto/C/ByF") ∷ was_put (codes "2") (codes "x") ∷ Pumped (moved 0 (codes "Auto/C/ByF") 0 ∷ [])
    ∷ was_put (codes "3") (codes "y") ∷ was_put (codes "4") (codes "z") ∷ Pumped (moved 0 (codes "Auto/C/ByF") 4 ∷ []) ∷ []
unfolding digits
other_collection = refl

-- without an index there is nothing to advance, and nothing to query
no_index : replies (Pump 64 None ∷ Find (codes "X") (codes "F") (codes "a") ∷ []) ≡ Pumped [] ∷ NoIndex (codes "X") ∷ []
no_index = refl

-- a field that is asked for twice has one index; that of another field of the collection takes in the fields of the first
asked_again : replies (Auto (codes "Users") (codes "Name") ∷ Auto (codes "Users") (codes "Name") ∷ Auto (codes "Users") (codes "Age") ∷ Auto (codes "Teams") (codes "Age") ∷ [])
    ≡ Index (codes "Auto/Users/ByName") ∷ Index (codes "Auto/Users/ByName") ∷ Index (codes "Auto/Users/ByAgeAndName") ∷ Index (codes "Auto/Teams/ByAge") ∷ []
unfolding digits
asked_again = refl

-- the case of letters matters in collections, and not in names of indexes
one_name : replies (Auto (codes "Users") (codes "Name") ∷ Auto (codes "users") (codes "name") ∷ Auto (codes "USERS") (codes "NAME") ∷ [])
    ≡ Index (codes "Auto/Users/ByName") ∷ Index (codes "Auto/users/Byname/2") ∷ Index (codes "Auto/USERS/ByNAME/3") ∷ []
unfolding digits
one_name = refl

-- an id keeps its collection and its first spelling, and a client may not write what belongs to indexes
ids_kept : replies (put (codes "Users") (codes "users/1") (codes "Name") (codes "Ada") ∷ put (codes "Teams") (codes "Users/1") (codes "Name") (codes "Ada") ∷ put (codes "Users") (codes "USERS/1") (codes "Name") (codes "Bo")
    ∷ put (codes "Users") (codes "@Index/a") (codes "Name") (codes "Ada") ∷ put (codes "@indexes") (codes "a") (codes "Name") (codes "Ada") ∷ [])
    ≡ was_put (codes "1") (codes "users/1") ∷ CollectionChanged 0 (codes "Users") ∷ was_put (codes "2") (codes "users/1") ∷ ReservedId 0 ∷ ReservedId 0 ∷ []
unfolding digits
ids_kept = refl

-- one row of two is taken: the index is stale until the next batch takes the other
behind_one : replies (Auto (codes "C") (codes "F") ∷ put (codes "C") (codes "x") (codes "F") (codes "a") ∷ put (codes "C") (codes "y") (codes "F") (codes "b") ∷ put (codes "C") (codes "x") (codes "F") (codes "c") ∷ Pump 1 None
    ∷ AskStale (codes "Auto/C/ByF") None ∷ AskStale (codes "Auto/C/ByF") (Some 3) ∷ AskStale (codes "Auto/C/ByF") (Some 4) ∷ Pump 1 None ∷ AskStale (codes "auto/c/byf") None ∷ AskStale (codes "B") None ∷ [])
    ≡ Index (codes "Auto/C/ByF") ∷ was_put (codes "2") (codes "x") ∷ was_put (codes "3") (codes "y") ∷ was_put (codes "4") (codes "x") ∷ Pumped (moved 0 (codes "Auto/C/ByF") 3 ∷ [])
    ∷ Stale 3 true 4 ∷ Stale 3 false 3 ∷ Stale 3 true 4 ∷ Pumped (moved 3 (codes "Auto/C/ByF") 4 ∷ []) ∷ Stale 4 false 4 ∷ NoIndex (codes "B") ∷ []
unfolding digits
behind_one = refl

-- deleting what is not there takes no etag, and a deleted id keeps its spelling and its collection
deletions : replies (put (codes "Users") (codes "users/1") (codes "Name") (codes "Ada") ∷ Delete (codes "users/9") AnyVector ∷ Delete (codes "USERS/1") AnyVector ∷ Delete (codes "USERS/1") AnyVector ∷ Get (codes "Users/1")
    ∷ put (codes "Teams") (codes "users/1") (codes "Name") (codes "Ada") ∷ put (codes "Users") (codes "USERS/1") (codes "Name") (codes "Bo") ∷ Delete (codes "@index/a") AnyVector ∷ AskStats ∷ [])
    ≡ was_put (codes "1") (codes "users/1") ∷ Deleted false (codes "users/9") ∷ Deleted true (codes "users/1") ∷ Deleted false (codes "users/1") ∷ NoDocument (codes "users/1")
    ∷ CollectionChanged 0 (codes "Users") ∷ was_put (codes "3") (codes "users/1") ∷ ReservedId 0 ∷ Stats 1 0 0 3 ∷ []
unfolding digits
deletions = refl

abbrev vector : List ℕ → List ℕ
vector etag = codes "A:" ++ etag ++ codes "-AAAAAAAAAAAAAAAAAAAAAA"

-- a transaction is taken whole or not at all, and each command sees those before it
transactions : replies (Bulk (Command.Put (codes "a") AnyVector (object no_entries) ∷ Command.Put (codes "b") (Vector (vector (codes "9"))) (object no_entries) ∷ []) ∷ AskStats
    ∷ Bulk (Command.Put (codes "a") (Vector []) (object no_entries) ∷ Command.Put (codes "A") (Vector (vector (codes "1"))) (object no_entries) ∷ Command.Delete (codes "b") AnyVector ∷ Command.Delete (codes "a") AnyVector ∷ []) ∷ AskStats ∷ Bulk [] ∷ [])
    ≡ Conflict 1 (vector (codes "9")) [] ∷ Stats 0 0 0 0
    ∷ Reply.Bulk (Done.Put (vector (codes "1")) (codes "a") ∷ Done.Put (vector (codes "2")) (codes "a") ∷ Done.Deleted false (codes "b") ∷ Done.Deleted true (codes "a") ∷ []) ∷ Stats 0 0 1 3 ∷ Reply.Bulk [] ∷ []
unfolding digits
transactions = refl

-- a document is shown with the members that the server writes
shown_document : replies (put (codes "Users") (codes "users/1") (codes "Name") (codes "Ada") ∷ Get (codes "USERS/1") ∷ [])
    ≡ was_put (codes "1") (codes "users/1") ∷ Document (object (entry (codes "@metadata") (object (entry (codes "@change-vector") (text (vector (codes "1")))
    (entry (codes "@collection") (text (codes "Users")) (entry (codes "@id") (text (codes "users/1")) (entry (codes "@last-modified") (text (moment_text 0)) no_entries)))))
    (entry (codes "Name") (text (codes "Ada")) no_entries))) ∷ []
unfolding digits
shown_document = refl

-- if the keeper fails, nothing changes
unkept : (step (start program) (record { takes = false ∷ []; before = 3; after = 4 }) 0 (Do (put (codes "Users") (codes "users/1") (codes "Name") (codes "Ada")))) ≡ record { reply = KeeperFault 3 4; machine = start program }
unkept = refl

-- a removed name is free, however it was spelled, and may be given again
removals : replies (Auto (codes "C") (codes "F") ∷ Remove (codes "AUTO/c/byf") ∷ Find (codes "Auto/C/ByF") (codes "F") (codes "a") ∷ Remove (codes "Auto/C/ByF") ∷ AskStats ∷ Auto (codes "C") (codes "F") ∷ AskStats ∷ [])
    ≡ Index (codes "Auto/C/ByF") ∷ Removed (codes "Auto/C/ByF") ∷ NoIndex (codes "Auto/C/ByF") ∷ NoIndex (codes "Auto/C/ByF") ∷ Stats 0 0 0 2 ∷ Index (codes "Auto/C/ByF") ∷ Stats 0 1 0 3 ∷ []
unfolding digits
removals = refl

-- the definition of a client: a map of one field
abbrev by_field : List ℕ → Definition
by_field field = Definition.Static
    (record { var = codes "c"; collection = codes "C"; clauses = []; members = record { name = field; value = Dot (Var (codes "c")) field } ∷ [] })
    None (codes "from c in docs.C select new { c." ++ (field ++ codes " }")) None

-- a client may not give the server's names, nor one of more than 200 bytes
definitions : replies (Define (codes "N") (by_field (codes "F")) ∷ Define (codes "aUTO/x") (by_field (codes "F")) ∷ Define (codes "ReplacementOf/N") (by_field (codes "F"))
    ∷ Define (replicate 201 97) (by_field (codes "F")) ∷ Define (replicate 200 97) (by_field (codes "F")) ∷ AskStats ∷ [])
    ≡ Index (codes "N") ∷ ReservedName ∷ ReservedName ∷ NameTooLong 201 ∷ Index (replicate 200 97) ∷ Stats 0 2 0 2 ∷ []
unfolding digits
definitions = refl

-- a batch for one name leaves the other indexes as they were
one_batch : replies (Auto (codes "C") (codes "F") ∷ Auto (codes "D") (codes "F") ∷ put (codes "C") (codes "x") (codes "F") (codes "a") ∷ put (codes "D") (codes "y") (codes "F") (codes "b") ∷ Pump 64 (Some (codes "auto/c/byf")) ∷ Pump 64 (Some (codes "N")) ∷ Pump 64 None ∷ [])
    ≡ Index (codes "Auto/C/ByF") ∷ Index (codes "Auto/D/ByF") ∷ was_put (codes "3") (codes "x") ∷ was_put (codes "4") (codes "y") ∷ Pumped (moved 0 (codes "Auto/C/ByF") 4 ∷ []) ∷ NoIndex (codes "N")
    ∷ Pumped (moved 4 (codes "Auto/C/ByF") 4 ∷ moved 0 (codes "Auto/D/ByF") 4 ∷ []) ∷ []
unfolding digits
one_batch = refl

-- QUERIES, over the entries of a list of rows

abbrev pub users_by_name : Mapper
users_by_name = mapper_of (Definition.Auto (codes "Users") ((codes "Name" ∷ []) ∷ []))

abbrev pub found_among : List Row → List (List ℕ)
found_among rows = found (filter_map (λ d. entry_of d.id (users_by_name.meaning d empty).outcome) (filter (is_mapped users_by_name) rows)) (codes "Name") (codes "ada")

abbrev pub ada : Row
ada = record { etag = 1; id = codes "users/1"; collection = codes "Users"; body = doc (object (entry (codes "@metadata") (object no_entries) (entry (codes "Name") (text (codes "Ada")) no_entries))); changed = 0 }

-- after a batch a document is found, whatever the case of its text
first_run : replies (put (codes "Users") (codes "users/1") (codes "Name") (codes "Ada") ∷ Auto (codes "Users") (codes "Name") ∷ Pump 64 None ∷ Find (codes "auto/users/byname") (codes "Name") (codes "ada") ∷ [])
    ≡ was_put (codes "1") (codes "users/1") ∷ Index (codes "Auto/Users/ByName") ∷ Pumped (moved 0 (codes "Auto/Users/ByName") 2 ∷ []) ∷ Found (codes "users/1" ∷ []) 2 false ∷ []
unfolding digits
first_run = ap (λ rows. was_put (codes "1") (codes "users/1") ∷ Index (codes "Auto/Users/ByName") ∷ Pumped (moved 0 (codes "Auto/Users/ByName") 2 ∷ []) ∷ Found (found_among rows) 2 false ∷ []) (values-table_of (ada ∷ []) (tt, tt))

-- before a batch there is nothing to find, and the answer is stale
not_brought_on : replies (put (codes "Users") (codes "users/1") (codes "Name") (codes "Ada") ∷ Auto (codes "Users") (codes "Name") ∷ Find (codes "Auto/Users/ByName") (codes "Name") (codes "ada") ∷ [])
    ≡ was_put (codes "1") (codes "users/1") ∷ Index (codes "Auto/Users/ByName") ∷ Found [] 0 true ∷ []
unfolding digits
not_brought_on = ap (λ rows. was_put (codes "1") (codes "users/1") ∷ Index (codes "Auto/Users/ByName") ∷ Found (found_among rows) 0 true ∷ []) (values-table_of [] tt)

-- what is written after a batch makes the answer stale, and is not found yet
behind : replies (put (codes "Users") (codes "users/1") (codes "Name") (codes "Ada") ∷ Auto (codes "Users") (codes "Name") ∷ Pump 64 None ∷ put (codes "Users") (codes "users/2") (codes "Name") (codes "ADA") ∷ Find (codes "Auto/Users/ByName") (codes "Name") (codes "ada") ∷ [])
    ≡ was_put (codes "1") (codes "users/1") ∷ Index (codes "Auto/Users/ByName") ∷ Pumped (moved 0 (codes "Auto/Users/ByName") 2 ∷ []) ∷ was_put (codes "3") (codes "users/2") ∷ Found (codes "users/1" ∷ []) 2 true ∷ []
unfolding digits
behind = ap (λ rows. was_put (codes "1") (codes "users/1") ∷ Index (codes "Auto/Users/ByName") ∷ Pumped (moved 0 (codes "Auto/Users/ByName") 2 ∷ []) ∷ was_put (codes "3") (codes "users/2") ∷ Found (found_among rows) 2 true ∷ []) (values-table_of (ada ∷ []) (tt, tt))

-- WHAT IS PRINTED

put_text : printed (was_put (codes "1") (codes "users/1")) ≡ codes "{\"ChangeVector\":\"A:1-AAAAAAAAAAAAAAAAAAAAAA\",\"Id\":\"users/1\"}\n"
put_text = refl

index_text : printed (Index (codes "Auto/Users/ByName")) ≡ codes "{\"Index\":\"Auto/Users/ByName\"}\n"
index_text = refl

removed_text : printed (Removed (codes "Auto/Users/ByName")) ≡ codes "{\"Removed\":\"Auto/Users/ByName\"}\n"
removed_text = refl

pumped_text : printed (Pumped (moved 0 (codes "Auto/Users/ByName") 2 ∷ [])) ≡ codes "{\"Pumped\":[{\"From\":0,\"Index\":\"Auto/Users/ByName\",\"To\":2}]}\n"
unfolding digits
pumped_text = refl

found_text : printed (Found (codes "users/1" ∷ []) 2 false) ≡ codes "{\"Ids\":[\"users/1\"],\"IndexEtag\":2,\"IsStale\":false}\n"
unfolding digits
found_text = refl

stale_text : printed (Found [] 0 true) ≡ codes "{\"Ids\":[],\"IndexEtag\":0,\"IsStale\":true}\n"
unfolding digits
stale_text = refl

indexes_text : printed (Indexes (record { definition = without_metadata (stored_body (row_body (Definition.Auto (codes "C") ((codes "F" ∷ []) ∷ [])))); entries = 1; errors = 0; etag = 2; is_stale = true; name = codes "N" } ∷ []))
    ≡ codes "{\"Results\":[{\"Definition\":{\"Collection\":\"C\",\"Fields\":[[\"F\"]],\"Kind\":\"auto\",\"Version\":2},\"Entries\":1,\"Errors\":0,\"Etag\":2,\"IsStale\":true,\"Name\":\"N\"}]}\n"
unfolding digits
indexes_text = refl

unknown_text : printed UnknownLine ≡ codes "{\"Error\":\"UnknownLine\"}\n"
unknown_text = refl

no_index_text : printed (NoIndex (codes "X")) ≡ codes "{\"Error\":\"NoIndex\",\"Name\":\"X\"}\n"
no_index_text = refl

conflict_text : printed (Conflict 1 (codes "A:9") []) ≡ codes "{\"At\":1,\"Error\":\"Conflict\",\"Expected\":\"A:9\",\"Found\":\"\"}\n"
unfolding digits
conflict_text = refl

answer_text : printed (Answer (record { includes = (codes "a", object no_entries) ∷ []; index_etag = 2; index_name = codes "N"; is_stale = false; results = text (codes "x") ∷ []; total = 3 }))
    ≡ codes "{\"Includes\":{\"a\":{}},\"IndexEtag\":2,\"IndexName\":\"N\",\"IsStale\":false,\"Results\":[\"x\"],\"TotalResults\":3}\n"
unfolding digits
answer_text = refl

bad_query_text : printed (BadQuery (record { at = 5; kind = query.Unexpected })) ≡ codes "{\"At\":5,\"Error\":\"Unexpected\"}\n"
unfolding digits
bad_query_text = refl

no_parameter_text : printed (BadPlan (NoParameter (codes "p"))) ≡ codes "{\"Error\":\"NoParameter\",\"Name\":\"p\"}\n"
no_parameter_text = refl

bad_page_text : printed (BadPlan BadPage) ≡ codes "{\"Error\":\"BadPage\"}\n"
bad_page_text = refl

too_long_text : printed (TooLong 513) ≡ codes "{\"Error\":\"TooLong\",\"Len\":513}\n"
unfolding digits
too_long_text = refl

stats_text : printed (Stats 1 1 0 2) ≡ codes "{\"CountOfDocuments\":1,\"CountOfIndexes\":1,\"CountOfTombstones\":0,\"LastDocEtag\":2}\n"
unfolding digits
stats_text = refl

deleted_text : printed (Deleted true (codes "users/1")) ≡ codes "{\"Deleted\":true,\"Id\":\"users/1\"}\n"
deleted_text = refl

bulk_text : printed (Reply.Bulk (Done.Put (codes "A:1") (codes "a") ∷ Done.Deleted false (codes "b") ∷ []))
    ≡ codes "{\"Results\":[{\"ChangeVector\":\"A:1\",\"Id\":\"a\",\"Type\":\"PUT\"},{\"Deleted\":false,\"Id\":\"b\",\"Type\":\"DELETE\"}]}\n"
bulk_text = refl

-- MOMENTS

first_moment : moment_text 0 ≡ codes "1970-01-01T00:00:00.0000000Z"
unfolding day_from day_in
first_moment = refl

-- the last day of a February in a leap year
leap_day : day_text (day_from 40 1970 11016) ≡ codes "2000-02-29"
unfolding day_from day_in
leap_day = refl
