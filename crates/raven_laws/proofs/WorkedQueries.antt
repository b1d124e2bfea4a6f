-- Examples that were worked out by hand: the replies to queries.
use Rattle.std.proofs.Common.{◌≡◌, ℕ, pos, negsuc, List, [], ◌∷◌, ◌++◌, Bool, false, true, Option, Some, None, filter, map, refl, ap, codes}
use Rattle.std.specs.Fmt.{digits}
use Rattle.std.specs.FinMap.{empty}
use Rattle.std.specs.List.{filter_map}
use Rattle.spec_data.specs.Data.{Data, Entries, text, object, entry, no_entries}
use Rattle.spec_data.specs.Moments.{moment_text}
use Rattle.spec_data.specs.Rows.{Row}
use Rattle.spec_data.specs.Scalars.{words}
use Rattle.index_tree.specs.Mapper.{is_mapped}
use Rattle.index_tree.specs.Meaning.{Fields}
use Rattle.spec_query.specs.Binding.{NoField, BadPage, plan_of}
use Rattle.spec_query.specs.Finding.{find_entries}
use Rattle.spec_query.specs.Query.{At, Cond, Compare, CompareOp, Const, OfIndex, OfCollection, Origin}
use Rattle.spec_query.specs.Query as query
use Rattle.spec_index.specs.Mapping.{entry_of}
use Rattle.spec_store.specs.Store.{row_at}
use Rattle.spec_server.specs.Replies.{Answer, BadPlan, Index, NoIndex, Pumped, QueryAnswer}
use Rattle.spec_server.specs.Requests.{Request, Do, Ask, Auto, Pump, takes_all}
use Rattle.spec_server.specs.Courses.{Machine}
use Rattle.spec_server.specs.Machine.{start, step}
use Rattle.spec_store.specs.Limits.{program}
use Rattle.spec_server.specs.Shown.{shown}
use Rattle.spec_store.proofs.KeyedLemmas.{values-table_of}
use Rattle.raven_laws.proofs.WorkedRows.{ada, moved, put, replies, users_by_name, was_put}

-- from this, where this holds
abbrev pub asked : Origin → Option Cond → query.Ask
asked origin cond = record {
  query = record { origin = origin; groups = []; cond = cond; sorts = []; columns = []; includes = [] };
  parameters = [];
  start = pos 0;
  size = None;
  cutoff = None;
  waits = false;
  looks = 64;
}

-- the field is the text
abbrev pub is : List ℕ → List ℕ → Cond
is field value = Compare (At (field ∷ [])) CompareOp.Is (Const (words value))

abbrev users : query.Ask
users = asked (OfCollection (codes "Users")) None

abbrev named : List ℕ → List ℕ → query.Ask
named field value = asked (OfIndex (codes "AUTO/users/byname")) (Some (is field value))

-- REFUSALS

no_index : replies (Ask (named (codes "Name") (codes "x")) ∷ []) ≡ NoIndex (codes "AUTO/users/byname") ∷ []
no_index = refl

no_field : replies (Auto (codes "Users") (codes "Name") ∷ Ask (named (codes "Age") (codes "x")) ∷ []) ≡ Index (codes "Auto/Users/ByName") ∷ BadPlan (NoField (codes "Age")) ∷ []
unfolding digits
no_field = refl

-- a page is refused before the index is looked up
bad_page : replies (Ask (record (named (codes "Name") (codes "x")) { start = negsuc 0 }) ∷ []) ≡ BadPlan BadPage ∷ []
bad_page = refl

-- ANSWERS, over the rows of a table

-- what the server adds to the metadata
abbrev shown_members : Entries
shown_members =
    entry (codes "@change-vector") (text (codes "A:1-AAAAAAAAAAAAAAAAAAAAAA"))
    (entry (codes "@collection") (text (codes "Users"))
    (entry (codes "@id") (text (codes "users/1"))
    (entry (codes "@last-modified") (text (moment_text 0)) no_entries)))

abbrev shown_ada : Data
shown_ada = object (entry (codes "@metadata") (object shown_members) (entry (codes "Name") (text (codes "Ada")) no_entries))

abbrev base : List ℕ
base = codes "AAAAAAAAAAAAAAAAAAAAAA"

-- what is found among these entries
abbrev answer_among : query.Ask → List Row → ℕ → List ℕ → List (List ℕ × Fields) → QueryAnswer
answer_among ask rows etag name entries =
    let found = find_entries (shown base) (λ id. row_at id rows) (plan_of ask) entries in
    record { includes = found.includes; index_etag = etag; index_name = name; is_stale = false; results = found.results; total = found.total }

abbrev only_ada : ℕ → List ℕ → QueryAnswer
only_ada etag name = record { includes = []; index_etag = etag; index_name = name; is_stale = false; results = shown_ada ∷ []; total = 1 }

-- a whole collection has no other document, and is as new as the store
whole_collection : replies (put (codes "Users") (codes "users/1") (codes "Name") (codes "Ada") ∷ Ask users ∷ [])
    ≡ was_put (codes "1") (codes "users/1") ∷ Answer (only_ada 1 (codes "collection/Users")) ∷ []
unfolding digits
whole_collection = ap (λ rows. was_put (codes "1") (codes "users/1") ∷ Answer (answer_among users (ada ∷ []) 1 (codes "collection/Users") (map (λ (r : Row). (r.id, [])) rows)) ∷ []) (values-table_of (ada ∷ []) (tt, tt))

abbrev left_by : List Request → Machine → Machine
left_by [] M = M
left_by (r ∷ rs) M = left_by rs (step M takes_all 0 (Do r)).machine

abbrev two_requests : List Request
two_requests = put (codes "Users") (codes "users/1") (codes "Name") (codes "Ada") ∷ Auto (codes "Users") (codes "Name") ∷ []

abbrev entries_by_name : List Row → List (List ℕ × Fields)
entries_by_name rows = filter_map (λ d. entry_of d.id (users_by_name.meaning d empty).outcome) (filter (is_mapped users_by_name) rows)

abbrev by_name : query.Ask → ℕ → List Row → QueryAnswer
by_name ask etag rows = answer_among ask (left_by two_requests (start program)).world.store.rows etag (codes "Auto/Users/ByName") (entries_by_name rows)

-- after a batch a document is found, whatever the case of its text, and the answer has the index's own name
by_index : replies (two_requests ++ Pump 64 None ∷ Ask (named (codes "Name") (codes "ADA")) ∷ [])
    ≡ was_put (codes "1") (codes "users/1") ∷ Index (codes "Auto/Users/ByName") ∷ Pumped (moved 0 (codes "Auto/Users/ByName") 2 ∷ []) ∷ Answer (only_ada 2 (codes "Auto/Users/ByName")) ∷ []
unfolding digits
by_index = ap (λ rows. was_put (codes "1") (codes "users/1") ∷ Index (codes "Auto/Users/ByName") ∷ Pumped (moved 0 (codes "Auto/Users/ByName") 2 ∷ []) ∷ Answer (by_name (named (codes "Name") (codes "ADA")) 2 rows) ∷ [])
    (values-table_of (ada ∷ []) (tt, tt))

-- before a batch there is nothing to find, and the answer is stale, but not up to a cutoff that is before the document
abbrev nothing_found : Bool → QueryAnswer
nothing_found is_stale = record { includes = []; index_etag = 0; index_name = codes "Auto/Users/ByName"; is_stale = is_stale; results = []; total = 0 }

abbrev until : ℕ → query.Ask
until etag = record (named (codes "Name") (codes "ada")) { cutoff = Some etag }

not_brought_on : replies (two_requests ++ Ask (until 1) ∷ Ask (until 0) ∷ [])
    ≡ was_put (codes "1") (codes "users/1") ∷ Index (codes "Auto/Users/ByName") ∷ Answer (nothing_found true) ∷ Answer (nothing_found false) ∷ []
unfolding digits
not_brought_on = ap (λ rows. was_put (codes "1") (codes "users/1") ∷ Index (codes "Auto/Users/ByName") ∷ Answer (record (by_name (until 1) 0 rows) { is_stale = true }) ∷ Answer (by_name (until 0) 0 rows) ∷ [])
    (values-table_of [] tt)

-- a query on a collection makes the automatic index that it needs; asked again, or on the index itself, it makes none
abbrev pub of_users : List ℕ → List ℕ → query.Ask
of_users field value = asked (OfCollection (codes "Users")) (Some (is field value))

abbrev none_found : QueryAnswer
none_found = record { includes = []; index_etag = 0; index_name = codes "Auto/Users/ByName"; is_stale = false; results = []; total = 0 }

abbrev after_asking : Machine
after_asking = left_by (Ask (of_users (codes "Name") (codes "x")) ∷ []) (start program)

index_made : replies (Ask (of_users (codes "Name") (codes "x")) ∷ Auto (codes "Users") (codes "Name") ∷ []) ≡ Answer none_found ∷ Index (codes "Auto/Users/ByName") ∷ []
unfolding digits
index_made = ap (λ rows. Answer (record (answer_among (of_users (codes "Name") (codes "x")) after_asking.world.store.rows 0 (codes "Auto/Users/ByName") (entries_by_name rows)) { is_stale = false }) ∷ Index (codes "Auto/Users/ByName") ∷ []) (values-table_of [] tt)
