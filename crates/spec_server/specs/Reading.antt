-- What a line asks, by its first word.
use Rattle.std.specs.Prelude.{ℕ, List, [], ◌∷◌, ◌&&◌, if◌then◌else◌, Option, Some, None, Result, Ok, Err, codes}
use Rattle.std.specs.Str.{bytes_eq, is_utf8}
use Rattle.spec_store.specs.Commit.{AnyVector}
use Rattle.spec_server.specs.Requests.{Request, Get, Remove, Auto, Find, Pump, Switch, Tidy, Clean, Stale, Indexes, Stats, Line, Do, Read, Publish}
use Rattle.spec_server.specs.Words.{ReadRefusal, UnknownLine, LineRead, then_read, argument_and_rest, id_read, parts_read, is_collection, is_field, name_read, max_read, worker_read}
use Rattle.spec_server.specs.Commands.{delete_read, bulk_read, put_of, put_if_of, delete_if_of}

-- GET <id>
abbrev pub get_of : List ℕ → Result Request ReadRefusal
get_of more = then_read (id_read more) (λ id. Ok (Get id))

-- AUTO <collection> <field>
abbrev pub auto_of : List ℕ → Result Request ReadRefusal
auto_of more = then_read (parts_read more) (λ parts. if is_collection parts.0 && is_field parts.1 then Ok (Auto parts.0 parts.1) else Err UnknownLine)

abbrev pub pump_read : List ℕ → Option (List ℕ × List ℕ) → Result Request ReadRefusal
pump_read more None = then_read (max_read more) (λ max. Ok (Pump max None))
pump_read more (Some parts) = then_read (max_read parts.0) (λ max. then_read (name_read parts.1) (λ name. Ok (Pump max (Some name))))

-- PUMP <max>, PUMP <max> <index>
abbrev pub pump_of : List ℕ → Result Request ReadRefusal
pump_of more = pump_read more (argument_and_rest more)

-- FIND <index> <field> <text>
abbrev pub find_of : List ℕ → Result Request ReadRefusal
find_of more =
    then_read (parts_read more) (λ parts. then_read (parts_read parts.1) (λ rest. then_read (name_read parts.0) (λ index. Ok (Find index rest.0 rest.1))))

-- DROP <index>
abbrev pub drop_of : List ℕ → Result Request ReadRefusal
drop_of more = then_read (name_read more) (λ name. Ok (Remove name))

-- SWITCH <index>
abbrev pub switch_of : List ℕ → Result Request ReadRefusal
switch_of more = then_read (name_read more) (λ name. Ok (Switch name))

-- STALE <index>
abbrev pub stale_of : List ℕ → Result Request ReadRefusal
stale_of more = then_read (name_read more) (λ name. Ok (Stale name None))

abbrev pub by_command : List ℕ → List ℕ → Result Request ReadRefusal
by_command word more =
    if bytes_eq word (codes "PUT") then put_of more else (
    if bytes_eq word (codes "PUTIF") then put_if_of more else (
    if bytes_eq word (codes "DEL") then delete_read AnyVector more else (
    if bytes_eq word (codes "DELIF") then delete_if_of more else (
    if bytes_eq word (codes "BULK") then bulk_read more else (
    if bytes_eq word (codes "GET") then get_of more else (
    if bytes_eq word (codes "DROP") then drop_of more else (
    if bytes_eq word (codes "AUTO") then auto_of more else (
    if bytes_eq word (codes "PUMP") then pump_of more else (
    if bytes_eq word (codes "FIND") then find_of more else (
    if bytes_eq word (codes "SWITCH") then switch_of more else (
    if bytes_eq word (codes "STALE") then stale_of more else Err UnknownLine)))))))))))

-- a line is STATS, INDEXES, TIDY or CLEAN alone, or the name of another command and its arguments
abbrev pub request_of : List ℕ → Result Request ReadRefusal
request_of line =
    if bytes_eq line (codes "STATS") then Ok Stats else (
    if bytes_eq line (codes "INDEXES") then Ok Indexes else (
    if bytes_eq line (codes "TIDY") then Ok Tidy else (
    if bytes_eq line (codes "CLEAN") then Ok Clean else then_read (parts_read line) (λ parts. by_command parts.0 parts.1))))

-- THE LINES OF WORKERS

-- READ <worker> <max> <index>
abbrev pub read_of : List ℕ → Result Line ReadRefusal
read_of more =
    then_read (parts_read more) (λ parts.
    then_read (parts_read parts.1) (λ rest.
    then_read (worker_read parts.0) (λ worker.
    then_read (max_read rest.0) (λ max.
    then_read (name_read rest.1) (λ index. Ok (Read worker max index))))))

-- PUBLISH <worker>
abbrev pub publish_of : List ℕ → Result Line ReadRefusal
publish_of more = then_read (worker_read more) (λ worker. Ok (Publish worker))

-- ALL LINES

abbrev pub do_read : Result Request ReadRefusal → Result Line ReadRefusal
do_read request = then_read request (λ r. Ok (Do r))

-- a line of a worker, or one with a request
abbrev pub by_worker : List ℕ → List ℕ → List ℕ → Result Line ReadRefusal
by_worker line word more =
    if bytes_eq word (codes "READ") then read_of more else (
    if bytes_eq word (codes "PUBLISH") then publish_of more else do_read (request_of line))

abbrev pub told_of : List ℕ → Option (List ℕ × List ℕ) → Result Line ReadRefusal
told_of line None = do_read (request_of line)
told_of line (Some parts) = by_worker line parts.0 parts.1

-- a line without bytes asks nothing
abbrev pub line_of : List ℕ → LineRead
line_of [] = Ok None
line_of (b ∷ bs) = if is_utf8 (b ∷ bs) then then_read (told_of (b ∷ bs) (argument_and_rest (b ∷ bs))) (λ line. Ok (Some line)) else Err UnknownLine
