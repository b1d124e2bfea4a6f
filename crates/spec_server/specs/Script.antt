-- What is written for the lines of a script, and the events that they make.
use Rattle.std.specs.Prelude.{ℕ, List, [], ◌∷◌, ◌++◌, Option, Some, None, Ok, Err}
use Rattle.std.specs.List.{filter_map}
use Rattle.spec_data.specs.Faults.{Fault, empty, too_long, control}
use Rattle.spec_data.specs.Json.{JsonRefusal, not_json, number_not_whole, too_deep}
use Rattle.spec_server.specs.Replies.{Reply, printed}
use Rattle.spec_server.specs.Replies as replies
use Rattle.spec_server.specs.Requests.{Keeping, Event}
use Rattle.spec_server.specs.Courses.{Machine}
use Rattle.spec_server.specs.Machine.{step}
use Rattle.spec_server.specs.Words.{ReadRefusal, UnknownLine, BadJson, BadId, BadName, BadMember, BadDefinition, BadQuery, LineRead}

abbrev pub json_reply : JsonRefusal → Reply
json_reply not_json = replies.NotJson
json_reply number_not_whole = replies.NumberNotWhole
json_reply too_deep = replies.TooDeep

abbrev pub fault_reply : Fault → Reply
fault_reply empty = replies.Empty
fault_reply (too_long len) = replies.TooLong len
fault_reply (control at) = replies.Control at

abbrev pub refusal_reply : ReadRefusal → Reply
refusal_reply UnknownLine = replies.UnknownLine
refusal_reply (BadJson refusal) = json_reply refusal
refusal_reply (BadId fault) = fault_reply fault
refusal_reply (BadName fault) = fault_reply fault
refusal_reply (BadMember name) = replies.BadMember name
refusal_reply (BadDefinition refusal) = replies.Lang refusal
refusal_reply (BadQuery refusal) = replies.BadQuery refusal

-- LINES ONE AFTER ANOTHER

-- what comes with a line from outside: the moment, and what the keeper does
pub record Circumstance : Type 0 where
  pub now : ℕ
  pub keeping : Keeping

-- what is written for a line: the printed reply, or nothing for a line without bytes
abbrev pub written_for : Machine → Circumstance → LineRead → List ℕ
written_for M c (Err refusal) = printed (refusal_reply refusal)
written_for M c (Ok None) = []
written_for M c (Ok (Some line)) = printed (step M c.keeping c.now line).reply

abbrev pub left_by : Machine → Circumstance → LineRead → Machine
left_by M c (Err refusal) = M
left_by M c (Ok None) = M
left_by M c (Ok (Some line)) = (step M c.keeping c.now line).machine

-- a line, what it is read as, and its circumstance
pub record Given : Type 0 where
  pub line : List ℕ
  pub read : LineRead
  pub circumstance : Circumstance

-- what is written for a line, and the state after it
abbrev pub reply_to : Given → Machine → List ℕ
reply_to g M = written_for M g.circumstance g.read

abbrev pub after_line : Given → Machine → Machine
after_line g M = left_by M g.circumstance g.read

-- what is written for lines, one after another, and the state after them
abbrev pub replies_to : List Given → Machine → List ℕ
replies_to [] M = []
replies_to (g ∷ more) M = reply_to g M ++ replies_to more (after_line g M)

abbrev pub after_lines : List Given → Machine → Machine
after_lines [] M = M
after_lines (g ∷ more) M = after_lines more (after_line g M)

-- the event that a line makes, if it asks for something
abbrev pub event_of : Circumstance → LineRead → Option Event
event_of c (Err refusal) = None
event_of c (Ok None) = None
event_of c (Ok (Some line)) = Some (record { line = line; now = c.now; keeping = c.keeping })

abbrev pub events_of : List Given → List Event
events_of all = filter_map (λ g. event_of g.circumstance g.read) all
