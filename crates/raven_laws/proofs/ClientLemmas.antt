-- What a line without a definition is read as, a client may send.
use Rattle.std.proofs.Common.{ℕ, List, [], ◌∷◌, Bool, true, false, cond, ◌&&◌, codes, Option, Some, None, Result, Ok, Err}
use Rattle.std.specs.List.{cons_option}
use Rattle.std.specs.Str.{bytes_eq, is_utf8}
use Rattle.spec_data.specs.Data.{Data}
use Rattle.spec_data.specs.Json.{JsonRefusal, reading}
use Rattle.spec_store.specs.Commit.{Expect, AnyVector, Vector}
use Rattle.spec_server.specs.Requests.{AreFromClients, Auto, Do, Event, Indexes, IsFromClient, Line, Request, Stats, Tidy, Clean}
use Rattle.spec_server.specs.Words.{LineRead, ReadRefusal, UnknownLine, argument_and_rest, id_read, is_collection, is_field, json_read, max_read, name_read, object_read, parts_read, then_read, worker_read}
use Rattle.spec_server.specs.Commands.{bulk_read, commands_of, delete_if_of, delete_read, put_if_of, put_of, put_read}
use Rattle.spec_server.specs.Reading.{auto_of, by_command, do_read, drop_of, find_of, get_of, line_of, publish_of, pump_of, pump_read, read_of, request_of, stale_of, switch_of, told_of}
use Rattle.spec_server.specs.Script.{Circumstance, event_of}

-- what is read is a request that a client may send, or a refusal
abbrev Fits : Result Request ReadRefusal → Type 0
Fits (Err refusal) = Unit {0}
Fits (Ok request) = IsFromClient (Do request)

then-fits : {A : Type 0} (r : Result A ReadRefusal) (more : A → Result Request ReadRefusal) → ((a : A) → Fits (more a)) → Fits (then_read r more)
then-fits (Err refusal) more f = tt
then-fits (Ok a) more f = f a

either-fits : (b : Bool) (x y : Result Request ReadRefusal) → Fits x → Fits y → Fits (cond b x y)
either-fits true x y f g = f
either-fits false x y f g = g

-- COMMANDS

put_read-fits : (id : List ℕ) (expected : Expect) (value : Result Data JsonRefusal) → Fits (put_read id expected value)
put_read-fits id expected value =
    then-fits (json_read value) _ (λ v. then-fits (id_read id) _ (λ i. then-fits (object_read (codes "body") (Some v)) _ (λ b. tt)))

delete_read-fits : (expected : Expect) (id : List ℕ) → Fits (delete_read expected id)
delete_read-fits expected id = then-fits (id_read id) _ (λ i. tt)

put_of-fits : (more : List ℕ) → Fits (put_of more)
put_of-fits more = then-fits (parts_read more) _ (λ parts. put_read-fits parts.0 AnyVector (reading parts.1))

put_if_of-fits : (more : List ℕ) → Fits (put_if_of more)
put_if_of-fits more = then-fits (parts_read more) _ (λ parts. then-fits (parts_read parts.1) _ (λ rest. put_read-fits parts.0 (Vector rest.0) (reading rest.1)))

delete_if_of-fits : (more : List ℕ) → Fits (delete_if_of more)
delete_if_of-fits more = then-fits (parts_read more) _ (λ parts. delete_read-fits (Vector parts.0) parts.1)

bulk_read-fits : (more : List ℕ) → Fits (bulk_read more)
bulk_read-fits more = then-fits (json_read (reading more)) _ (λ value. then-fits (commands_of value) _ (λ commands. tt))

-- INDEXES AND QUESTIONS

get_of-fits : (more : List ℕ) → Fits (get_of more)
get_of-fits more = then-fits (id_read more) _ (λ id. tt)

drop_of-fits : (more : List ℕ) → Fits (drop_of more)
drop_of-fits more = then-fits (name_read more) _ (λ name. tt)

auto_of-fits : (more : List ℕ) → Fits (auto_of more)
auto_of-fits more = then-fits (parts_read more) _ (λ parts. either-fits (is_collection parts.0 && is_field parts.1) (Ok (Auto parts.0 parts.1)) (Err UnknownLine) tt tt)

pump_read-fits : (more : List ℕ) (parts : Option (List ℕ × List ℕ)) → Fits (pump_read more parts)
pump_read-fits more None = then-fits (max_read more) _ (λ max. tt)
pump_read-fits more (Some parts) = then-fits (max_read parts.0) _ (λ max. then-fits (name_read parts.1) _ (λ name. tt))

find_of-fits : (more : List ℕ) → Fits (find_of more)
find_of-fits more = then-fits (parts_read more) _ (λ parts. then-fits (parts_read parts.1) _ (λ rest. then-fits (name_read parts.0) _ (λ index. tt)))

switch_of-fits : (more : List ℕ) → Fits (switch_of more)
switch_of-fits more = then-fits (name_read more) _ (λ name. tt)

stale_of-fits : (more : List ℕ) → Fits (stale_of more)
stale_of-fits more = then-fits (name_read more) _ (λ name. tt)

-- LINES

by_command-fits : (word more : List ℕ) → Fits (by_command word more)
by_command-fits word more =
    either-fits (bytes_eq word (codes "PUT")) (put_of more) _ (put_of-fits more) (
    either-fits (bytes_eq word (codes "PUTIF")) (put_if_of more) _ (put_if_of-fits more) (
    either-fits (bytes_eq word (codes "DEL")) (delete_read AnyVector more) _ (delete_read-fits AnyVector more) (
    either-fits (bytes_eq word (codes "DELIF")) (delete_if_of more) _ (delete_if_of-fits more) (
    either-fits (bytes_eq word (codes "BULK")) (bulk_read more) _ (bulk_read-fits more) (
    either-fits (bytes_eq word (codes "GET")) (get_of more) _ (get_of-fits more) (
    either-fits (bytes_eq word (codes "DROP")) (drop_of more) _ (drop_of-fits more) (
    either-fits (bytes_eq word (codes "AUTO")) (auto_of more) _ (auto_of-fits more) (
    either-fits (bytes_eq word (codes "PUMP")) (pump_of more) _ (pump_read-fits more (argument_and_rest more)) (
    either-fits (bytes_eq word (codes "FIND")) (find_of more) _ (find_of-fits more) (
    either-fits (bytes_eq word (codes "SWITCH")) (switch_of more) _ (switch_of-fits more) (
    either-fits (bytes_eq word (codes "STALE")) (stale_of more) (Err UnknownLine) (stale_of-fits more) tt)))))))))))

request_of-fits : (line : List ℕ) → Fits (request_of line)
request_of-fits line =
    either-fits (bytes_eq line (codes "STATS")) (Ok Stats) _ tt (
    either-fits (bytes_eq line (codes "INDEXES")) (Ok Indexes) _ tt (
    either-fits (bytes_eq line (codes "TIDY")) (Ok Tidy) _ tt (
    either-fits (bytes_eq line (codes "CLEAN")) (Ok Clean) _ tt (then-fits (parts_read line) _ (λ parts. by_command-fits parts.0 parts.1)))))

-- what a line is read as is nothing, a refusal, or what a client may send
abbrev pub IsReadFromClient : LineRead → Type 0
IsReadFromClient (Err refusal) = Unit {0}
IsReadFromClient (Ok None) = Unit {0}
IsReadFromClient (Ok (Some line)) = IsFromClient line

-- what is read of the words of a line is a refusal, or what a client may send
abbrev Suits : Result Line ReadRefusal → Type 0
Suits (Err refusal) = Unit {0}
Suits (Ok line) = IsFromClient line

then-suits : {A : Type 0} (r : Result A ReadRefusal) (more : A → Result Line ReadRefusal) → ((a : A) → Suits (more a)) → Suits (then_read r more)
then-suits (Err refusal) more f = tt
then-suits (Ok a) more f = f a

do-suits : (r : Result Request ReadRefusal) → Fits r → Suits (do_read r)
do-suits (Err refusal) f = tt
do-suits (Ok request) f = f

read_of-suits : (more : List ℕ) → Suits (read_of more)
read_of-suits more =
    then-suits (parts_read more) _ (λ parts. then-suits (parts_read parts.1) _ (λ rest. then-suits (worker_read parts.0) _ (λ worker. then-suits (max_read rest.0) _ (λ max. then-suits (name_read rest.1) _ (λ index. tt)))))

told_of-suits : (line : List ℕ) (parts : Option (List ℕ × List ℕ)) → Suits (told_of line parts)
told_of-suits line None = do-suits (request_of line) (request_of-fits line)
told_of-suits line (Some parts) = elim (bytes_eq parts.0 (codes "READ")) as (λ b. Suits (cond b (read_of parts.1) (cond (bytes_eq parts.0 (codes "PUBLISH")) (publish_of parts.1) (do_read (request_of line))))) [
  | true ↦ read_of-suits parts.1
  | false ↦ elim (bytes_eq parts.0 (codes "PUBLISH")) as (λ b. Suits (cond b (publish_of parts.1) (do_read (request_of line)))) [
    | true ↦ then-suits (worker_read parts.1) _ (λ worker. tt)
    | false ↦ do-suits (request_of line) (request_of-fits line)
  ]
]

asked-fits : (r : Result Line ReadRefusal) → Suits r → IsReadFromClient (then_read r (λ line. Ok (Some line)))
asked-fits (Err refusal) f = tt
asked-fits (Ok line) f = f

pub line_of-client : (line : List ℕ) → IsReadFromClient (line_of line)
line_of-client [] = tt
line_of-client (b ∷ bs) =
    let told = told_of (b ∷ bs) (argument_and_rest (b ∷ bs)) in
    elim (is_utf8 (b ∷ bs)) as (λ t. IsReadFromClient (cond t (then_read told (λ line. Ok (Some line))) (Err UnknownLine))) [
      | true ↦ asked-fits told (told_of-suits (b ∷ bs) (argument_and_rest (b ∷ bs)))
      | false ↦ tt
    ]

-- EVENTS

pub event-clients : (c : Circumstance) (read : LineRead) (es : List Event) → IsReadFromClient read → AreFromClients es → AreFromClients (cons_option (event_of c read) es)
event-clients c (Err refusal) es one all = all
event-clients c (Ok None) es one all = all
event-clients c (Ok (Some line)) es one all = (one, all)
