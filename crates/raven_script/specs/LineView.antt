-- What a line of a script asks, and what is read of it.
use Rattle.std.specs.Prelude.{ℕ, List, Option, Some, option_map, Result, Ok, Err, codes, if◌then◌else◌}
use Rattle.std.specs.Str.{bytes_eq}
use Rattle.spec_server.specs.Requests as is
use Rattle.spec_server.specs.Words as read
use Rattle.spec_server.specs.Words.{LineRead, then_read}
use Rattle.spec_server.specs.Reading.{by_command, do_read, publish_of, read_of}
use Rattle.spec_server.specs.Texts.{Asked, Plain, Querying, asked_to_define, asked_to_define_several, asked_to_query, asked_to_query_several, asking_of, index_of, plain_asking, several_of}
use Rattle.raven_lines.specs.Lines.{Comes}
use Rattle.raven_request.specs.RequestRead.{IsRefusedFor}
use Rattle.raven_request.specs.RequestView.{request_view}
use Rattle.raven_request.specs.declared.request.ReadRefusal.{ReadRefusal}
use Rattle.raven_script.specs.declared.request.Line.{Line}
use Rattle.raven_script.specs.declared.request.Line.TheVariants as l

abbrev pub line_view : Line → is.Line
line_view (l.Do request) = is.Do (request_view request)
line_view (l.Read worker max index) = is.Read worker max index
line_view (l.Publish worker) = is.Publish worker

-- what the line asks comes to what was found, or to this refusal
abbrev pub Answers : Asked → Result (Option Line) ReadRefusal → Type 0
Answers asked (Ok found) = Comes asked (Ok (option_map line_view found))
Answers asked (Err why) = IsRefusedFor asked why

-- so, where the line has bytes
abbrev pub AsksLine : Asked → Result Line ReadRefusal → Type 0
AsksLine asked (Ok line) = Comes asked (Ok (Some (line_view line)))
AsksLine asked (Err why) = IsRefusedFor asked why

-- what a line with bytes is read as
abbrev pub line_told : Result is.Line read.ReadRefusal → LineRead
line_told told = then_read told (λ line. Ok (Some line))

-- what a line of this first word and this rest is read as, if no texts of a definition or of a query are read
abbrev pub word_told : (word rest : List ℕ) → Result is.Line read.ReadRefusal
word_told word rest =
    if bytes_eq word (codes "READ") then read_of rest else (
    if bytes_eq word (codes "PUBLISH") then publish_of rest else do_read (by_command word rest))

-- and what it asks
abbrev pub word_asked : (word rest : List ℕ) → Asked
word_asked word rest =
    if bytes_eq word (codes "INDEX") then asked_to_define (index_of rest) else (
    if bytes_eq word (codes "QUERY") then Querying rest plain_asking else (
    if bytes_eq word (codes "ASK") then asked_to_query (asking_of rest) else (
    if bytes_eq word (codes "MULTI") then asked_to_define_several (several_of rest) else (
    if bytes_eq word (codes "MASK") then asked_to_query_several (asking_of rest) else Plain (line_told (word_told word rest))))))
