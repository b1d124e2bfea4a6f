-- Examples on bytes: lines, what they ask, and a whole script with all that is written for it.
use Rattle.std.proofs.Common.{◌≡◌, ℕ, zero, suc, pos, negsuc, List, [], ◌∷◌, ◌++◌, Bool, true, false, if◌then◌else◌, nat_lt, length, Some, None, Result, Ok, Err, map, refl, ap, ◌∙◌, codes, arith}
use Rattle.std.specs.List.{list_all}
use Rattle.std.specs.Fmt.{digits}
use Rattle.std.specs.Str.{is_utf8, IsAscii}
use Rattle.std.proofs.lemmas.Bool.{ltb-true}
use Rattle.std.proofs.lemmas.Str.{IsUtf8-from_ascii, is_utf8-from_IsUtf8}
use Rattle.json.specs.Json.{value}
use Rattle.json.specs.Lex.{punctuate, lex}
use Rattle.json.specs.Text.{content}
use Rattle.serde_json.specs.Read as json
use Rattle.spec_data.specs.Data.{Data, entries_of}
use Rattle.spec_data.specs.Data as datum
use Rattle.spec_data.specs.Faults.{control}
use Rattle.spec_data.specs.Json.{JsonRefusal, not_json, too_deep, reading, whole}
use Rattle.spec_data.specs.Scan.{is_too_deep, outside}
use Rattle.spec_store.specs.Commit.{AnyVector, Vector}
use Rattle.spec_server.specs.Replies.{Found, printed}
use Rattle.spec_server.specs.Requests.{Request, Do, Delete, Get, Remove, Auto, Find, Pump, Stale, Indexes, Stats, takes_all}
use Rattle.spec_server.specs.Courses.{Machine}
use Rattle.spec_server.specs.Machine.{start}
use Rattle.spec_server.specs.Lines.{lines}
use Rattle.spec_server.specs.Words.{ReadRefusal, UnknownLine, BadJson, BadId, BadName, BadMember, argument_and_rest, then_read, json_read, LineRead}
use Rattle.spec_server.specs.Commands.{put_read}
use Rattle.spec_server.specs.Reading.{do_read, told_of, request_of, line_of}
use Rattle.spec_server.specs.Texts.{Asked, Plain, Defining, Querying, texts_of_body, index_of, plain_asking, asking_of, asking_of_body, asked_to_define, asked_to_query, asked_with, asked_of}
use Rattle.spec_server.specs.Script.{Given, written_for, left_by, reply_to, after_line, replies_to}
use Rattle.spec_store.specs.Limits.{program}
use Rattle.spec_store.proofs.StoreLemmas.{both_true}
use Rattle.spec_store.proofs.KeyedLemmas.{values-table_of}
use Rattle.raven_laws.proofs.WorkedRows.{put, found_among, ada}

-- LINES end at LF, which the last may lack; one CR before it is left out

ends : lines (codes "a\r\nb\n\nc\r\r\nd\re\r") ≡ codes "a" ∷ codes "b" ∷ [] ∷ codes "c\r" ∷ codes "d\re\r" ∷ []
ends = refl

no_bytes : lines [] ≡ []
no_bytes = refl

-- WHAT A LINE ASKS

abbrev line_told : Result Request ReadRefusal → LineRead
line_told request = then_read request (λ r. Ok (Some (Do r)))

below_128 : (bs : List ℕ) → list_all (λ b. nat_lt b 128) bs ≡ true → IsAscii bs
below_128 [] h i = omega arith
below_128 (b ∷ bs) h zero = ltb-true b 128 (both_true (nat_lt b 128) (list_all (λ x. nat_lt x 128) bs) h).0
below_128 (b ∷ bs) h (suc i) = below_128 bs (both_true (nat_lt b 128) (list_all (λ x. nat_lt x 128) bs) h).1 i

-- bytes below 128 are UTF-8
ascii : (bs : List ℕ) → list_all (λ b. nat_lt b 128) bs ≡ true → is_utf8 bs ≡ true
ascii bs h = is_utf8-from_IsUtf8 bs (IsUtf8-from_ascii bs (below_128 bs h))

told_by : (line : List ℕ) (request : Result Request ReadRefusal) → list_all (λ b. nat_lt b 128) line ≡ true → nat_lt 0 (length line) ≡ true
    → told_of line (argument_and_rest line) ≡ do_read request → line_of line ≡ line_told request
told_by [] request h some e = absurd cc
told_by (b ∷ bs) request h some e =
    ap (λ u. if u then then_read (told_of (b ∷ bs) (argument_and_rest (b ∷ bs))) (λ line. Ok (Some line)) else Err UnknownLine) (ascii (b ∷ bs) h)
    ∙ ap (λ r. then_read r (λ line. Ok (Some line))) e
    ∙ done request
  where
    done : (r : Result Request ReadRefusal) → then_read (do_read r) (λ line. Ok (Some line)) ≡ line_told r
    done (Err refusal) = refl
    done (Ok request) = refl

auto_line : request_of (codes "AUTO Users Name") ≡ Ok (Auto (codes "Users") (codes "Name"))
auto_line = refl

auto_empty : request_of (codes "AUTO @empty Name") ≡ Ok (Auto (codes "@empty") (codes "Name"))
auto_empty = refl

auto_reserved : request_of (codes "AUTO @indexes Kind") ≡ Err UnknownLine
auto_reserved = refl

auto_of_two_parts : request_of (codes "AUTO Users Name.First") ≡ Err UnknownLine
auto_of_two_parts = refl

auto_of_a_sum : request_of (codes "AUTO Users sum(Age)") ≡ Err UnknownLine
auto_of_a_sum = refl

auto_of_three_words : request_of (codes "AUTO Users Name Age") ≡ Err UnknownLine
auto_of_three_words = refl

auto_of_one_word : request_of (codes "AUTO Users") ≡ Err UnknownLine
auto_of_one_word = refl

pump_line : request_of (codes "PUMP 64") ≡ Ok (Pump 64 None)
pump_line = refl

pump_zeros : request_of (codes "PUMP 0000000000065536") ≡ Ok (Pump 65536 None)
pump_zeros = refl

pump_long : request_of (codes "PUMP 00000000000065536") ≡ Err UnknownLine
pump_long = refl

pump_none : request_of (codes "PUMP 0") ≡ Err UnknownLine
pump_none = refl

pump_more : request_of (codes "PUMP 65537") ≡ Err UnknownLine
pump_more = refl

pump_named : request_of (codes "PUMP 64 Auto/Users/ByName") ≡ Ok (Pump 64 (Some (codes "Auto/Users/ByName")))
pump_named = refl

pump_named_control : request_of (codes "PUMP 64 a\tb") ≡ Err (BadName (control 1))
pump_named_control = refl

pump_named_none : request_of (codes "PUMP 0 N") ≡ Err UnknownLine
pump_named_none = refl

pump_two_names : request_of (codes "PUMP 64 a b") ≡ Ok (Pump 64 (Some (codes "a b")))
pump_two_names = refl

drop_line : request_of (codes "DROP Auto/Users/ByName") ≡ Ok (Remove (codes "Auto/Users/ByName"))
drop_line = refl

drop_nothing : request_of (codes "DROP ") ≡ Err UnknownLine
drop_nothing = refl

drop_control : request_of (codes "DROP a\tb") ≡ Err (BadName (control 1))
drop_control = refl

indexes_line : request_of (codes "INDEXES") ≡ Ok Indexes
indexes_line = refl

indexes_more : request_of (codes "INDEXES x") ≡ Err UnknownLine
indexes_more = refl

find_line : request_of (codes "FIND Auto/Users/ByName Name ada") ≡ Ok (Find (codes "Auto/Users/ByName") (codes "Name") (codes "ada"))
find_line = refl

find_rest : request_of (codes "FIND I F  a b ") ≡ Ok (Find (codes "I") (codes "F") (codes " a b "))
find_rest = refl

find_nothing : request_of (codes "FIND I F ") ≡ Err UnknownLine
find_nothing = refl

find_two_spaces : request_of (codes "FIND I  a") ≡ Err UnknownLine
find_two_spaces = refl

small_letters : request_of (codes "pump 64") ≡ Err UnknownLine
small_letters = refl

stats_line : request_of (codes "STATS") ≡ Ok Stats
stats_line = refl

stats_more : request_of (codes "STATS x") ≡ Err UnknownLine
stats_more = refl

delete_line : request_of (codes "DEL  a b ") ≡ Ok (Delete (codes " a b ") AnyVector)
delete_line = refl

delete_nothing : request_of (codes "DEL ") ≡ Err UnknownLine
delete_nothing = refl

delete_if_line : request_of (codes "DELIF A:1 a b") ≡ Ok (Delete (codes "a b") (Vector (codes "A:1")))
delete_if_line = refl

get_line : request_of (codes "GET users/1") ≡ Ok (Get (codes "users/1"))
get_line = refl

get_control : request_of (codes "GET a\tb") ≡ Err (BadId (control 1))
get_control = refl

stale_line : request_of (codes "STALE Auto/C/ByF") ≡ Ok (Stale (codes "Auto/C/ByF") None)
stale_line = refl

stale_control : request_of (codes "STALE a\tb") ≡ Err (BadName (control 1))
stale_control = refl

put_of_no_body : request_of (codes "PUT users/1") ≡ Err UnknownLine
put_of_no_body = refl

put_of_two_spaces : request_of (codes "PUT  {}") ≡ Err UnknownLine
put_of_two_spaces = refl

abbrev ada_text : List ℕ
ada_text = codes "{\"Name\":\"Ada\",\"@metadata\":{\"@collection\":\"Users\"}}"

-- the JSON of a text of ASCII
abbrev json_of : List ℕ → Result Data JsonRefusal
json_of text = whole (json.read text)

read_as : (text : List ℕ) → list_all (λ b. nat_lt b 128) text ≡ true → is_too_deep outside 0 text ≡ false → reading text ≡ json_of text
read_as text h shallow = ap (λ b. if b then Err too_deep else whole (if is_utf8 text then json.read text else None)) shallow ∙ ap (λ b. whole (if b then json.read text else None)) (ascii text h)

put_line : request_of (codes "PUT users/1 " ++ ada_text) ≡ Ok (put (codes "Users") (codes "users/1") (codes "Name") (codes "Ada"))
unfolding value punctuate lex content
put_line = ap (put_read (codes "users/1") AnyVector) (read_as ada_text refl refl)

-- a body is an object
put_of_a_list : request_of (codes "PUT a []") ≡ Err (BadMember (codes "body"))
unfolding value punctuate lex content
put_of_a_list = ap (put_read (codes "a") AnyVector) (read_as (codes "[]") refl refl)

-- invalid JSON is reported before an invalid id
put_of_no_json : request_of (codes "PUT a\tb {") ≡ Err (BadJson not_json)
unfolding value punctuate lex content
put_of_no_json = ap (put_read (codes "a\tb") AnyVector) (read_as (codes "{") refl refl)

-- an invalid id is reported before a body that is no object
put_of_no_id : request_of (codes "PUT a\tb []") ≡ Err (BadId (control 1))
unfolding value punctuate lex content
put_of_no_id = ap (put_read (codes "a\tb") AnyVector) (read_as (codes "[]") refl refl)

-- THE DEFINITION OF AN INDEX

-- what an ASCII line that begins with INDEX is read as
defining_by : (line rest : List ℕ) (value : Result Data JsonRefusal) → list_all (λ b. nat_lt b 128) line ≡ true → reading rest ≡ value
    → (if is_utf8 line then asked_to_define (index_of rest) else Plain (line_of line)) ≡ asked_to_define (then_read (json_read value) texts_of_body)
defining_by line rest value h e = ap (λ u. if u then asked_to_define (index_of rest) else Plain (line_of line)) (ascii line h) ∙ ap (λ v. asked_to_define (then_read (json_read v) texts_of_body)) e

abbrev one_map : List ℕ
one_map = codes "{\"Maps\":[\"m\"],\"Name\":\"N\"}"

index_of_one_map : asked_of (codes "INDEX " ++ one_map) ≡ Defining (codes "N") (codes "m", None)
unfolding value punctuate lex content
index_of_one_map = defining_by (codes "INDEX " ++ one_map) one_map (json_of one_map) refl (read_as one_map refl refl)

abbrev two_maps : List ℕ
two_maps = codes "{\"Maps\":[\"m\",\"n\"],\"Name\":\"N\"}"

index_of_two_maps : asked_of (codes "INDEX " ++ two_maps) ≡ Plain (Err (BadMember (codes "Maps")))
unfolding value punctuate lex content
index_of_two_maps = defining_by (codes "INDEX " ++ two_maps) two_maps (json_of two_maps) refl (read_as two_maps refl refl)

abbrev no_name : List ℕ
no_name = codes "{\"Map\":[]}"

-- an invalid name is reported before an invalid map
index_of_no_name : asked_of (codes "INDEX " ++ no_name) ≡ Plain (Err (BadMember (codes "Name")))
unfolding value punctuate lex content
index_of_no_name = defining_by (codes "INDEX " ++ no_name) no_name (json_of no_name) refl (read_as no_name refl refl)

index_nothing : asked_of (codes "INDEX ") ≡ Plain (line_of (codes "INDEX "))
index_nothing = refl

-- A QUERY

asked_as : (line word rest : List ℕ) → list_all (λ b. nat_lt b 128) line ≡ true → (if is_utf8 line then asked_with line word rest else Plain (line_of line)) ≡ asked_with line word rest
asked_as line word rest h = ap (λ u. if u then asked_with line word rest else Plain (line_of line)) (ascii line h)

query_line : asked_of (codes "QUERY from Users ") ≡ Querying (codes "from Users ") plain_asking
query_line = asked_as (codes "QUERY from Users ") (codes "QUERY") (codes "from Users ") refl

query_nothing : asked_of (codes "QUERY ") ≡ Plain (line_of (codes "QUERY "))
query_nothing = refl

asked_in : (line rest : List ℕ) (value : Result Data JsonRefusal) → list_all (λ b. nat_lt b 128) line ≡ true → reading rest ≡ value
    → (if is_utf8 line then asked_to_query (asking_of rest) else Plain (line_of line)) ≡ asked_to_query (then_read (json_read value) asking_of_body)
asked_in line rest value h e = ap (λ u. if u then asked_to_query (asking_of rest) else Plain (line_of line)) (ascii line h) ∙ ap (λ v. asked_to_query (then_read (json_read v) asking_of_body)) e

abbrev only_query : List ℕ
only_query = codes "{\"Query\":\"from Users\"}"

-- with nothing beside its text it is the same as by QUERY
ask_line : asked_of (codes "ASK " ++ only_query) ≡ Querying (codes "from Users") plain_asking
unfolding value punctuate lex content
ask_line = asked_in (codes "ASK " ++ only_query) only_query (json_of only_query) refl (read_as only_query refl refl)

abbrev no_query : List ℕ
no_query = codes "{\"Looks\":\"\"}"

-- a missing text is reported before any other member
ask_no_query : asked_of (codes "ASK " ++ no_query) ≡ Plain (Err (BadMember (codes "Query")))
unfolding value punctuate lex content
ask_no_query = asked_in (codes "ASK " ++ no_query) no_query (json_of no_query) refl (read_as no_query refl refl)

-- the members beside the text
abbrev asked_with_looks : ℕ → Data
asked_with_looks looks = datum.object (entries_of (
    (codes "CutoffEtag", datum.num (pos 3))
    ∷ (codes "Looks", datum.num (pos looks))
    ∷ (codes "PageSize", datum.num (pos 2))
    ∷ (codes "Query", datum.text (codes "q"))
    ∷ (codes "QueryParameters", datum.object (entries_of ((codes "p", datum.null) ∷ [])))
    ∷ (codes "Start", datum.num (negsuc 0))
    ∷ (codes "WaitForNonStaleResults", datum.flag true)
    ∷ []))

ask_members : asking_of_body (asked_with_looks 64)
    ≡ Ok (codes "q", record { parameters = (codes "p", datum.null) ∷ []; start = negsuc 0; size = Some (pos 2); cutoff = Some 3; waits = true; looks = 64 })
ask_members = refl

ask_looks : asking_of_body (asked_with_looks 65) ≡ Err (BadMember (codes "Looks"))
ask_looks = refl

ask_no_looks : asking_of_body (asked_with_looks 0) ≡ Err (BadMember (codes "Looks"))
ask_no_looks = refl

-- A WHOLE SCRIPT, from its bytes to what is written for it

-- a line at moment 0, with a keeper that takes all
abbrev plainly : List ℕ → Given
plainly line = record { line = line; read = line_of line; circumstance = record { now = 0; keeping = takes_all } }

abbrev written_from : List LineRead → Machine → List ℕ
written_from [] M = []
written_from (r ∷ rs) M = written_for M (record { now = 0; keeping = takes_all }) r ++ written_from rs (left_by M (record { now = 0; keeping = takes_all }) r)

by_lines : (all : List (List ℕ)) (M : Machine) → replies_to (map plainly all) M ≡ written_from (map line_of all) M
by_lines [] M = refl
by_lines (line ∷ more) M = ap (λ rest. reply_to (plainly line) M ++ rest) (by_lines more (after_line (plainly line) M))

abbrev first_script : List ℕ
first_script = codes "PUT users/1 {\"Name\":\"Ada\",\"@metadata\":{\"@collection\":\"Users\"}}\nAUTO Users Name\n\nPUMP 64\nFIND Auto/Users/ByName Name ada"

-- what its lines ask; one has no bytes
first_asked : map line_of (lines first_script)
    ≡ Ok (Some (Do (put (codes "Users") (codes "users/1") (codes "Name") (codes "Ada")))) ∷ Ok (Some (Do (Auto (codes "Users") (codes "Name")))) ∷ Ok None
    ∷ Ok (Some (Do (Pump 64 None))) ∷ Ok (Some (Do (Find (codes "Auto/Users/ByName") (codes "Name") (codes "ada")))) ∷ []
first_asked = λ i. told_by (codes "PUT users/1 " ++ ada_text) (Ok (put (codes "Users") (codes "users/1") (codes "Name") (codes "Ada"))) refl refl (ap do_read put_line) i ∷ told_by (codes "AUTO Users Name") (Ok (Auto (codes "Users") (codes "Name"))) refl refl (ap do_read auto_line) i ∷ Ok None ∷ told_by (codes "PUMP 64") (Ok (Pump 64 None)) refl refl (ap do_read pump_line) i ∷ told_by (codes "FIND Auto/Users/ByName Name ada") (Ok (Find (codes "Auto/Users/ByName") (codes "Name") (codes "ada"))) refl refl (ap do_read find_line) i ∷ []

abbrev put_ada : List ℕ
put_ada = codes "PUT users/1 " ++ ada_text

abbrev find_ada : List ℕ
find_ada = codes "FIND Auto/Users/ByName Name ada"

either_way : (b : Bool) (asked : Asked) → (if b then asked else asked) ≡ asked
either_way true asked = refl
either_way false asked = refl

-- none of them has the text of a definition or of a query
first_plain : map asked_of (lines first_script) ≡ map (λ line. Plain (line_of line)) (lines first_script)
first_plain = λ i.
    either_way (is_utf8 put_ada) (Plain (line_of put_ada)) i
    ∷ either_way (is_utf8 (codes "AUTO Users Name")) (Plain (line_of (codes "AUTO Users Name"))) i
    ∷ Plain (line_of [])
    ∷ either_way (is_utf8 (codes "PUMP 64")) (Plain (line_of (codes "PUMP 64"))) i
    ∷ either_way (is_utf8 find_ada) (Plain (line_of find_ada)) i
    ∷ []

-- the first three replies, and then the rest
abbrev first_replies : List ℕ → List ℕ
first_replies rest = codes "{\"ChangeVector\":\"A:1-AAAAAAAAAAAAAAAAAAAAAA\",\"Id\":\"users/1\"}\n{\"Index\":\"Auto/Users/ByName\"}\n{\"Pumped\":[{\"From\":0,\"Index\":\"Auto/Users/ByName\",\"To\":2}]}\n" ++ rest

first_written : replies_to (map plainly (lines first_script)) (start program) ≡ first_replies (codes "{\"Ids\":[\"users/1\"],\"IndexEtag\":2,\"IsStale\":false}\n")
unfolding digits
first_written = by_lines (lines first_script) (start program) ∙ ap (λ rs. written_from rs (start program)) first_asked
    ∙ ap (λ rows. first_replies (printed (Found (found_among rows) 2 false) ++ [])) (values-table_of (ada ∷ []) (tt, tt))
