-- A database: its store, its indexes and the notes of their switches.
use Rattle.std.specs.Prelude.{ℕ, pos, ◌+◌, ◌<◌, List, [], ◌∷◌, ◌++◌, Bool, true, false, not, ◌||◌, nat_lt, nat_le, nat_eq, ◌==◌, if◌then◌else◌, Option, Some, None, is_some, Result, Ok, Err, length, codes, filter, find, map, drop}
use Rattle.std.specs.List.{starts_with}
use Rattle.std.specs.FinMap.{empty}
use Rattle.spec_data.specs.Data.{Data, null, num, text, array, object, items_of, entries_of}
use Rattle.spec_data.specs.Faults.{replacement_of}
use Rattle.spec_data.specs.Folding.{folded, same_key}
pub use Rattle.spec_data.specs.Limits.{max_index_name}
use Rattle.spec_data.specs.Members.{Path}
use Rattle.spec_data.specs.Rows.{Row}
use Rattle.spec_store.specs.Store.{Store, last}
use Rattle.spec_data.specs.Tables.{Table, Scope, note_rows}
use Rattle.spec_store.specs.Stale.{batch_rows, newest, stale}
use Rattle.spec_index.specs.Index.{etag_of_batch}
use Rattle.index_tree.specs.Definitions.{Definition, Static, Auto, AutoReduce, same_definition}
use Rattle.index_tree.specs.Mapper.{mapper_of, scope_of}
use Rattle.spec_store.specs.Commit.{Command, Put, Delete, AnyVector, Setting}

-- an index as far as it has come: it has recorded this table up to this etag, and the store that it read last was cleaned up to `cleaned`
pub record Version : Type 0 where
  pub definition : Definition
  pub etag : ℕ
  pub table : Table
  pub cleaned : ℕ

-- a live index: the etag at which it was made, its name, its current version, and the etag of the row of its definition
pub record Slot : Type 0 where
  pub number : ℕ
  pub name : List ℕ
  pub version : Version
  pub row : ℕ

-- a switch of a name to another index: its etag, the name, the old and the new number, the new index's etag, and the newest row that it reads
pub record Note : Type 0 where
  pub etag : ℕ
  pub name : List ℕ
  pub old : ℕ
  pub new : ℕ
  pub index_etag : ℕ
  pub newest : ℕ

pub record World : Type 0 where
  pub setting : Setting
  pub store : Store
  pub slots : List Slot
  pub notes : List Note

-- the server makes the index for queries; every other one is defined by a client
abbrev pub is_automatic : Definition → Bool
is_automatic (Static map reduce map_text reduce_text) = false
is_automatic (Auto collection fields) = true
is_automatic (AutoReduce collection groups sums) = true

abbrev pub reads : Version → Scope
reads v = scope_of (mapper_of v.definition)

abbrev pub new_version : Definition → Version
new_version d = record { definition = d; etag = 0; table = empty; cleaned = 0 }

-- BATCHES

-- the version with these rows recorded up to this etag, of a store that was cleaned up to `cleaned`; nothing if there are none
abbrev pub advanced : Version → List Row → ℕ → ℕ → Option Version
advanced v [] etag cleaned = None
advanced v (r ∷ rows) etag cleaned = Some (record { definition = v.definition; etag = etag; table = note_rows v.table (r ∷ rows); cleaned = cleaned })

-- the version after a batch of the first `max` rows that it has not seen; nothing if it has seen all
abbrev pub batch : Version → Store → ℕ → Option Version
batch v S max = advanced v (batch_rows (reads v) v.etag S max) (etag_of_batch (reads v) v.etag S max) S.cleaned

-- SLOTS

-- the slot that serves the name: the first whose folded name is the same
abbrev pub serving : List Slot → List ℕ → Option Slot
serving slots name = find (λ s. same_key (folded name) (folded s.name)) slots

abbrev pub numbered : List Slot → ℕ → Option Slot
numbered slots n = find (λ s. s.number == n) slots

-- the first number is above `low`, and each other is above the one before
abbrev pub NumbersRise : ℕ → List Slot → Type 0
NumbersRise low [] = Unit {0}
NumbersRise low (s ∷ slots) = (low < s.number) × NumbersRise s.number slots

-- the slot with this version, if it has this number
abbrev pub with_version : ℕ → Version → Slot → Slot
with_version n v s = if s.number == n then record { number = s.number; name = s.name; version = v; row = s.row } else s

-- the id of the row that stores the definition of this name
abbrev pub index_id : List ℕ → List ℕ
index_id name = codes "@index/" ++ name

abbrev pub text_list : List (List ℕ) → Data
text_list texts = array (items_of (map text texts))

abbrev pub path_list : List Path → Data
path_list paths = array (items_of (map text_list paths))

abbrev pub text_or_null : Option (List ℕ) → Data
text_or_null None = null
text_or_null (Some t) = text t

-- the members that say a definition in the body of its row
abbrev pub definition_members : Definition → List (List ℕ × Data)
definition_members (Static map reduce map_text reduce_text) =
    (codes "Kind", text (codes "static"))
    ∷ (codes "Map", text map_text)
    ∷ (codes "Reduce", text_or_null reduce_text)
    ∷ []
definition_members (Auto collection fields) =
    (codes "Collection", text collection)
    ∷ (codes "Fields", path_list fields)
    ∷ (codes "Kind", text (codes "auto"))
    ∷ []
definition_members (AutoReduce collection groups sums) =
    (codes "Collection", text collection)
    ∷ (codes "Groups", path_list groups)
    ∷ (codes "Kind", text (codes "auto-reduce"))
    ∷ (codes "Sums", path_list sums)
    ∷ []

-- by which a body says that it is of the second version
abbrev pub version_member : List ℕ × Data
version_member = (codes "Version", num (pos 2))

-- it puts the row into the collection `@indexes`
abbrev pub metadata_member : List ℕ × Data
metadata_member = (codes "@metadata", object (entries_of ((codes "@collection", text (codes "@indexes")) ∷ [])))

-- the body of a definition's row, as it is written
abbrev pub row_body : Definition → Data
row_body d = object (entries_of (metadata_member ∷ (definition_members d ++ version_member ∷ [])))

-- the body of the first version, which says none. It was written before there were quotients.
abbrev pub first_body : Definition → Data
first_body d = object (entries_of (metadata_member ∷ definition_members d))

-- the slots and notes after a request, the commands that the server commits with them, and the slot's name as it is spelled
pub record SlotChange : Type 0 where
  pub slots : List Slot
  pub notes : List Note
  pub commands : List Command
  pub name : List ℕ

pub data SlotRefusal : Type 0 where
  -- the name of a new automatic index serves already; the server chooses one that is free
  NameServes : SlotRefusal
  NoIndex NoReplacement NotesFull TooManyIndexes ReservedName : SlotRefusal
  -- the etag of the replacement, and the newest row that it reads
  NotFresh : (index_etag newest : ℕ) → SlotRefusal
  NameTooLong : (len : ℕ) → SlotRefusal

-- the slots except that of this number
abbrev pub without : ℕ → List Slot → List Slot
without n slots = filter (λ s. not (s.number == n)) slots

abbrev pub unchanged : World → List ℕ → SlotChange
unchanged W name = record { slots = W.slots; notes = W.notes; commands = []; name = name }

-- MAKING ONE

-- these slots with a new one at the end, whose number is the next etag
abbrev pub added_to : World → List Slot → List ℕ → Definition → SlotChange
added_to W slots name d = record {
  slots = slots ++ record { number = last W.store + 1; name = name; version = new_version d; row = last W.store + 1 } ∷ [];
  notes = W.notes;
  commands = Put (index_id name) AnyVector (row_body d) ∷ [];
  name = name;
}

abbrev pub added : World → List ℕ → Definition → SlotChange
added W name d = added_to W W.slots name d

abbrev pub added_if_room : World → List ℕ → Definition → Result SlotChange SlotRefusal
added_if_room W name d = if nat_le W.setting.max_slots (length W.slots) then Err TooManyIndexes else Ok (added W name d)

-- adds an automatic index, under a name that the server chose
abbrev pub define : World → List ℕ → Definition → Result SlotChange SlotRefusal
define W name d =
    if nat_le W.setting.max_slots (length W.slots) then Err TooManyIndexes else (
    if is_some (serving W.slots name) then Err NameServes else Ok (added W name d))

-- the name begins as those of automatic indexes do
abbrev pub begins_with_auto : List ℕ → Bool
begins_with_auto name = starts_with nat_eq (folded name) (codes "auto/")

-- the name begins as those of replacements do
abbrev pub begins_with_replacement : List ℕ → Bool
begins_with_replacement name = starts_with nat_eq (folded name) (codes "replacementof/")

-- the name without one leading `ReplacementOf/`, in any case of letters
abbrev pub replaced_name : List ℕ → List ℕ
replaced_name name = if begins_with_replacement name then drop 14 name else name

-- only the server gives such names
abbrev pub is_reserved_name : List ℕ → Bool
is_reserved_name name = begins_with_auto name || begins_with_replacement name

abbrev pub name_refusal : List ℕ → Option SlotRefusal
name_refusal name =
    if is_reserved_name name then Some ReservedName else (
    if nat_lt max_index_name (length name) then Some (NameTooLong (length name)) else None)

-- the slots without the replacement r, whose definition is no longer wanted
abbrev pub dropped : World → Slot → List ℕ → SlotChange
dropped W r name = record { slots = without r.number W.slots; notes = W.notes; commands = Delete (index_id r.name) AnyVector ∷ []; name = name }

-- A definition for the name that s serves. If it is that of s, nothing is added, and a replacement that is being built goes. If it is that of the
-- replacement, nothing changes. Otherwise a new replacement is built beside s, in place of an earlier one.
abbrev pub define_beside : World → Definition → Slot → Option Slot → Result SlotChange SlotRefusal
define_beside W d s None = if same_definition d s.version.definition then Ok (unchanged W s.name) else added_if_room W (replacement_of s.name) d
define_beside W d s (Some r) =
    if same_definition d s.version.definition then Ok (dropped W r s.name) else (
    if same_definition d r.version.definition then Ok (unchanged W r.name) else Ok (added_to W (without r.number W.slots) (replacement_of s.name) d))

abbrev pub define_at : World → List ℕ → Definition → Option Slot → Result SlotChange SlotRefusal
define_at W name d None = added_if_room W name d
define_at W name d (Some s) = define_beside W d s (serving W.slots (replacement_of s.name))

abbrev pub unless_refused : Option SlotRefusal → Result SlotChange SlotRefusal → Result SlotChange SlotRefusal
unless_refused None change = change
unless_refused (Some refusal) change = Err refusal

-- adds an index that a client defines
abbrev pub define_named : World → List ℕ → Definition → Result SlotChange SlotRefusal
define_named W name d = unless_refused (name_refusal name) (define_at W name d (serving W.slots name))

-- REMOVING ONE

abbrev pub is_named : List ℕ → Slot → Bool
is_named name s = same_key (folded name) (folded s.name)

-- the slots without s, and without its replacement if there is one
abbrev pub taken_out : World → Slot → Option Slot → SlotChange
taken_out W s None = record { slots = without s.number W.slots; notes = W.notes; commands = Delete (index_id s.name) AnyVector ∷ []; name = s.name }
taken_out W s (Some r) = record {
  slots = without r.number (without s.number W.slots);
  notes = W.notes;
  commands = Delete (index_id s.name) AnyVector ∷ Delete (index_id r.name) AnyVector ∷ [];
  name = s.name;
}

abbrev pub removed : World → Option Slot → Result SlotChange SlotRefusal
removed W None = Err NoIndex
removed W (Some s) = Ok (taken_out W s (serving W.slots (replacement_of s.name)))

abbrev pub remove : World → List ℕ → Result SlotChange SlotRefusal
remove W name = removed W (serving W.slots name)

-- SWITCHING A NAME to its replacement

abbrev pub newest_read : Store → Slot → ℕ
newest_read S s = newest S (reads s.version) None

-- the slot with the name that it takes, and with the new row of its definition
abbrev pub named_anew : List ℕ → ℕ → Slot → Slot
named_anew name row r = record { number = r.number; name = name; version = r.version; row = row }

-- the slot of this number takes the name
abbrev pub renamed : ℕ → List ℕ → ℕ → Slot → Slot
renamed n name row s = if s.number == n then named_anew name row s else s

-- the note of the switch from s to r
abbrev pub switch_note : World → Slot → Slot → Note
switch_note W s r = record {
  etag = last W.store + 1;
  name = s.name;
  old = s.number;
  new = r.number;
  index_etag = r.version.etag;
  newest = newest_read W.store r;
}

-- r takes the name of s, keeps its number and all that it has recorded, and s goes
abbrev pub takes_over : World → Slot → Slot → SlotChange
takes_over W s r = record {
  slots = map (renamed r.number s.name (last W.store + 1)) (without s.number W.slots);
  notes = W.notes ++ switch_note W s r ∷ [];
  commands = Put (index_id s.name) AnyVector (row_body r.version.definition) ∷ Delete (index_id r.name) AnyVector ∷ [];
  name = s.name;
}

abbrev pub is_stale : Store → Slot → Bool
is_stale S s = stale S (reads s.version) s.version.etag None

-- only a replacement that is not stale on this very store takes the name
abbrev pub switched_to : World → Slot → Option Slot → Result SlotChange SlotRefusal
switched_to W s None = Err NoReplacement
switched_to W s (Some r) =
    if nat_le W.setting.max_notes (length W.notes) then Err NotesFull else (
    if is_stale W.store r then Err (NotFresh r.version.etag (newest_read W.store r)) else Ok (takes_over W s r))

abbrev pub switched : World → Option Slot → Result SlotChange SlotRefusal
switched W None = Err NoIndex
switched W (Some s) = switched_to W s (serving W.slots (replacement_of s.name))

abbrev pub switch : World → List ℕ → Result SlotChange SlotRefusal
switch W name = switched W (serving W.slots name)
