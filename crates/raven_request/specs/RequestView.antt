-- What clients ask, and what it is read from.
use Rattle.std.specs.Prelude.{◌≡◌, ℕ, List, Option, Some, None, map, Result, Ok, Err}
use Rattle.spec_data.specs.Faults.{Fault}
use Rattle.spec_data.specs.Json.{not_json, number_not_whole, too_deep}
use Rattle.raven_value.specs.Refusal.{fault_in}
use Rattle.raven_value.specs.View.{data_of}
use Rattle.spec_server.specs.Requests as is
use Rattle.spec_server.specs.Words as read
use Rattle.spec_server.specs.Texts as read_texts
use Rattle.doc_txn.specs.CommandView.{command_view, expect_view}
use Rattle.index_definition.specs.RefusalView.{refusal_view}
use Rattle.index_lang.specs.ByTexts.{Named}
use Rattle.index_tree.specs.Definitions.{Definition}
use Rattle.rql_grammar.specs.Kinds.{query_refusal}
use Rattle.raven_request.specs.declared.query.Asking.{Asking}
use Rattle.raven_request.specs.declared.request.Request.{Request}
use Rattle.raven_request.specs.declared.request.Request.TheVariants as r
use Rattle.raven_request.specs.declared.request.ReadRefusal.{ReadRefusal}
use Rattle.raven_request.specs.declared.request.ReadRefusal.TheVariants as refusal

-- the request to define an index
abbrev pub define_view : Named → is.Request
define_view d = is.Define d.name d.definition

-- a part of an index of several maps: its name, and its definition
abbrev pub part_view : Named → List ℕ × Definition
part_view d = (d.name, d.definition)

-- the request to define these parts
abbrev pub multi_view : List Named → is.Request
multi_view parts = is.Multi (map part_view parts)

abbrev pub request_view : Request → is.Request
request_view (r.Put id expected body) = is.Put id (expect_view expected) (data_of body)
request_view (r.Delete id expected) = is.Delete id (expect_view expected)
request_view (r.Bulk commands) = is.Bulk (map command_view commands)
request_view (r.Get id) = is.Get id
request_view (r.Define definition) = define_view definition
request_view (r.Multi parts) = multi_view parts.items
request_view (r.Remove name) = is.Remove name
request_view (r.Auto collection field) = is.Auto collection field
request_view (r.Find index field words) = is.Find index field words
request_view (r.Ask ask) = is.Ask ask
request_view (r.Mask ask) = is.Mask ask
request_view (r.Pump max index) = is.Pump max index
request_view (r.Switch name) = is.Switch name
request_view r.Tidy = is.Tidy
request_view r.Clean = is.Clean
request_view (r.Stale name cutoff) = is.Stale name cutoff
request_view r.Indexes = is.Indexes
request_view r.Stats = is.Stats

-- what is asked beside the text of a query
abbrev pub asking_view : Asking → read_texts.Asking
asking_view a = record { parameters = a.parameters; start = a.start; size = a.size; cutoff = a.cutoff; waits = a.wait; looks = a.looks }

-- the text has this fault; out of memory is none
abbrev pub IsBadId : {A : Type 0} → Option Fault → Result A read.ReadRefusal → Type 0
IsBadId None reading = ⊥
IsBadId (Some fault) reading = reading ≡ Err (read.BadId fault)

-- and the same of a name
abbrev pub IsBadName : {A : Type 0} → Option Fault → Result A read.ReadRefusal → Type 0
IsBadName None reading = ⊥
IsBadName (Some fault) reading = reading ≡ Err (read.BadName fault)

-- each refusal is that of what is read; memory alone may run out at any point
abbrev pub Refuses : {A : Type 0} → ReadRefusal → Result A read.ReadRefusal → Type 0
Refuses refusal.UnknownLine reading = reading ≡ Err read.UnknownLine
Refuses refusal.NotJson reading = reading ≡ Err (read.BadJson not_json)
Refuses refusal.NumberNotWhole reading = reading ≡ Err (read.BadJson number_not_whole)
Refuses refusal.TooDeep reading = reading ≡ Err (read.BadJson too_deep)
Refuses (refusal.BadId why) reading = IsBadId (fault_in why) reading
Refuses (refusal.BadName why) reading = IsBadName (fault_in why) reading
Refuses (refusal.BadMember name) reading = reading ≡ Err (read.BadMember name)
Refuses (refusal.BadDefinition part at kind) reading = reading ≡ Err (read.BadDefinition (refusal_view part at kind))
Refuses (refusal.BadQuery at kind) reading = reading ≡ Err (read.BadQuery (query_refusal at kind))
Refuses refusal.NoMemory reading = Unit {0}

-- memory ran out
abbrev pub IsOutOfMemory : ReadRefusal → Type 0
IsOutOfMemory (refusal.BadId why) = fault_in why ≡ None
IsOutOfMemory (refusal.BadName why) = fault_in why ≡ None
IsOutOfMemory refusal.NoMemory = Unit {0}
IsOutOfMemory other = ⊥

-- it names this member
abbrev pub IsBadMember : List ℕ → ReadRefusal → Type 0
IsBadMember name (refusal.BadMember told) = told ≡ name
IsBadMember name refusal.NoMemory = Unit {0}
IsBadMember name other = ⊥

-- what was read is what this reading gives, or its refusal
abbrev pub Reads : {A B : Type 0} → (A → B) → Result A ReadRefusal → Result B read.ReadRefusal → Type 0
Reads view (Ok a) reading = reading ≡ Ok (view a)
Reads view (Err why) reading = Refuses why reading
