-- What the laws claim of defining an index, of removing one, of switching a name, and of a batch for one.
use Rattle.std.specs.Prelude.{◌≡◌, ℕ, ◌+◌, ◌<◌, ◌≤◌, List, [], ◌∷◌, ◌++◌, true, false, Option, Some, None, Ok, Err, length, ◌⊎◌}
use Rattle.std.specs.FinMap.{empty}
use Rattle.spec_data.specs.Faults.{replacement_of}
use Rattle.spec_data.specs.Folding.{folded, same_key}
use Rattle.spec_data.specs.Members.{Path}
use Rattle.spec_data.specs.Rows.{Row}
use Rattle.index_tree.specs.declared.map_query.MapQuery.{MapQuery}
use Rattle.index_tree.specs.declared.reduce_query.ReduceQuery.{ReduceQuery}
use Rattle.spec_store.specs.Store.{row_at, last}
use Rattle.index_tree.specs.Definitions.{Definition, Static, Auto, AutoReduce}
use Rattle.spec_store.specs.Commit.{Command, AnyVector, Server, Refused, Written, commit, document_at, tombstone}
use Rattle.spec_index.specs.World.{Slot, SlotChange, define_named, index_id, is_named, is_reserved_name, is_stale, max_index_name, named_anew, newest_read, row_body, serving, taken_out, takes_over}
use Rattle.spec_server.specs.Sound.{Has, IsListed}
use Rattle.spec_server.specs.Replies.{Reply}
use Rattle.spec_server.specs.Requests.{Keeping, Define, Remove, Switch, Pump, Do}
use Rattle.spec_server.specs.Courses.{Machine, Replied, is_taken, same_machine}
use Rattle.spec_server.specs.Writes.{write_refused}
use Rattle.spec_server.specs.Batches.{after_batch, pumping}
use Rattle.spec_server.specs.Machine.{step}
use Rattle.raven_laws.specs.Served.{IsSwitch}
use Rattle.raven_laws.specs.Writes.{IsKeeperFault}

-- WHEN TWO DEFINITIONS SAY THE SAME

pub record SameStatic (m n : MapQuery) (r s : Option ReduceQuery) : Type 0 where
  pub map : m ≡ n
  pub reduce : r ≡ s

pub record SameAuto (c d : List ℕ) (ps qs : List Path) : Type 0 where
  pub collection : c ≡ d
  pub fields : ps ≡ qs

pub record SameGrouped (c d : List ℕ) (gs hs ps qs : List Path) : Type 0 where
  pub collection : c ≡ d
  pub groups : gs ≡ hs
  pub sums : ps ≡ qs

-- the texts of the definitions do not matter
abbrev pub SaysTheSame : Definition → Definition → Type 0
SaysTheSame (Static m r t u) (Static n s v w) = SameStatic m n r s
SaysTheSame (Auto c fields) (Auto d others) = SameAuto c d fields others
SaysTheSame (AutoReduce c groups sums) (AutoReduce d others more) = SameGrouped c d groups others sums more
SaysTheSame d e = ⊥

-- CASES OF SEVERAL ANSWERS

-- no index serves the name: the reply says so, and nothing changes
pub record IsNoIndex (M : Machine) (name : List ℕ) (replied : Replied) : Type 0 where
  pub none : serving M.world.slots name ≡ None
  pub reply : replied ≡ same_machine M (Reply.NoIndex name)

-- the row of the definition is refused: the reply has the cause, and nothing changes
pub record IsRowRefused (M : Machine) (now : ℕ) (commands : List Command) (replied : Replied) : Type 0 where
  pub refused : Refused
  pub cause : commit M.world.setting Server now commands M.world.store ≡ Err refused
  pub reply : replied ≡ same_machine M (write_refused refused)

-- the slots of all other names stay as they were, and there are no more of them
pub record OtherSlotsStay (M : Machine) (name : List ℕ) (N : Machine) : Type 0 where
  pub kept : (s : Slot) → Has M.world.slots s → is_named name s ≡ false → Has N.world.slots s
  pub no_more : (s : Slot) → Has N.world.slots s → is_named name s ≡ false → Has M.world.slots s

-- the rows of all other ids stay as they were
abbrev pub OtherRowsStay : Machine → List ℕ → Machine → Type 0
OtherRowsStay M id N = (q : List ℕ) → same_key q (folded id) ≡ false → row_at q N.world.store.rows ≡ row_at q M.world.store.rows

-- DEFINING AN INDEX

-- a client may give the name: it is none of the server's, and not too long
pub record MayBeGiven (name : List ℕ) : Type 0 where
  pub unreserved : is_reserved_name name ≡ false
  pub short : length name ≤ max_index_name

pub record IsReserved (M : Machine) (name : List ℕ) (replied : Replied) : Type 0 where
  pub reserved : is_reserved_name name ≡ true
  pub reply : replied ≡ same_machine M Reply.ReservedName

pub record IsTooLong (M : Machine) (name : List ℕ) (replied : Replied) : Type 0 where
  pub unreserved : is_reserved_name name ≡ false
  pub long : max_index_name < length name
  pub reply : replied ≡ same_machine M (Reply.NameTooLong (length name))

-- the slot serves the name, with a definition that says something else
pub record ServesAnother (M : Machine) (name : List ℕ) (d : Definition) (slot : Slot) : Type 0 where
  pub serves : serving M.world.slots name ≡ Some slot
  pub other : SaysTheSame d slot.version.definition → ⊥

-- the slot serves the name, with a definition that says the same
pub record ServesIt (M : Machine) (name : List ℕ) (d : Definition) (slot : Slot) : Type 0 where
  pub serves : serving M.world.slots name ≡ Some slot
  pub same : SaysTheSame d slot.version.definition

-- the replacement that is built for the slot
abbrev pub IsBuiltFor : Machine → Slot → Option Slot → Type 0
IsBuiltFor M slot other = serving M.world.slots (replacement_of slot.name) ≡ other

-- the name serves the same definition, and no replacement is being built: the reply has its name, and nothing changes
pub record ServesTheSame (M : Machine) (name : List ℕ) (d : Definition) (replied : Replied) : Type 0 where
  pub given : MayBeGiven name
  pub slot : Slot
  pub it : ServesIt M name d slot
  pub alone : IsBuiltFor M slot None
  pub reply : replied ≡ same_machine M (Reply.Index slot.name)

-- a replacement of the same definition is being built already: the reply has its name, and nothing changes
pub record IsBuiltAlready (M : Machine) (name : List ℕ) (d : Definition) (replied : Replied) : Type 0 where
  pub given : MayBeGiven name
  pub slot : Slot
  pub another : ServesAnother M name d slot
  pub new : Slot
  pub built : IsBuiltFor M slot (Some new)
  pub same : SaysTheSame d new.version.definition
  pub reply : replied ≡ same_machine M (Reply.Index new.name)

-- no slot serves the name, or one with another definition, for which no replacement is being built: a slot is to be added
abbrev pub NeedsASlot : Machine → List ℕ → Definition → Type 0
NeedsASlot M name d = (serving M.world.slots name ≡ None) ⊎ ((slot : Slot) × ServesAnother M name d slot × IsBuiltFor M slot None)

pub record IsOneTooMany (M : Machine) (name : List ℕ) (d : Definition) (replied : Replied) : Type 0 where
  pub given : MayBeGiven name
  pub needs : NeedsASlot M name d
  pub full : M.world.setting.max_slots ≤ length M.world.slots
  pub reply : replied ≡ same_machine M Reply.TooManyIndexes

-- the rows of the change that is wanted are refused: the reply has the cause, and nothing changes
pub record DefinitionIsRefused (M : Machine) (now : ℕ) (name : List ℕ) (d : Definition) (replied : Replied) : Type 0 where
  pub given : MayBeGiven name
  pub change : SlotChange
  pub wanted : define_named M.world name d ≡ Ok change
  pub row : IsRowRefused M now change.commands replied

-- a slot of the definition whose number is the next etag, and whose index has recorded nothing
abbrev pub new_slot : Machine → List ℕ → Definition → Slot
new_slot M name d = record {
  number = last M.world.store + 1;
  name = name;
  version = record { definition = d; etag = 0; table = empty; cleaned = 0 };
  row = last M.world.store + 1;
}

-- no test refuses these commands of the server, and the keeper takes their rows
pub record AreRowsAllowed (M : Machine) (k : Keeping) (now : ℕ) (commands : List Command) : Type 0 where
  pub wrote : Written
  pub unrefused : commit M.world.setting Server now commands M.world.store ≡ Ok wrote
  pub taken : is_taken k.takes wrote.rows ≡ true

-- Its row is allowed. The new slot follows the others, serves the name and has its row; all other slots and rows stay as they were.
pub record IsNewIndex (M : Machine) (k : Keeping) (now : ℕ) (name : List ℕ) (d : Definition) (replied : Replied) : Type 0 where
  pub allowed : AreRowsAllowed M k now (Command.Put (index_id name) AnyVector (row_body d) ∷ [])
  pub free : serving M.world.slots name ≡ None
  pub room : length M.world.slots < M.world.setting.max_slots
  pub reply : replied.reply ≡ Reply.Index name
  pub slots : replied.machine.world.slots ≡ M.world.slots ++ new_slot M name d ∷ []
  pub serves : serving replied.machine.world.slots name ≡ Some (new_slot M name d)
  pub listed : IsListed replied.machine.world.store (new_slot M name d)
  pub rows : OtherRowsStay M (index_id name) replied.machine

pub record IsDefined (M : Machine) (k : Keeping) (now : ℕ) (name : List ℕ) (d : Definition) (replied : Replied) : Type 0 where
  pub given : MayBeGiven name
  pub new : IsNewIndex M k now name d replied

-- The name serves another definition. A replacement of this definition is built beside it, in place of an earlier one if there is one; until it is
-- switched in, the name is served as before. All other slots and rows stay as they were.
pub record IsNewReplacement (M : Machine) (k : Keeping) (now : ℕ) (name : List ℕ) (d : Definition) (replied : Replied) : Type 0 where
  pub given : MayBeGiven name
  pub slot : Slot
  pub another : ServesAnother M name d slot
  pub allowed : AreRowsAllowed M k now (Command.Put (index_id (replacement_of slot.name)) AnyVector (row_body d) ∷ [])
  pub reply : replied.reply ≡ Reply.Index (replacement_of slot.name)
  pub builds : serving replied.machine.world.slots (replacement_of slot.name) ≡ Some (new_slot M (replacement_of slot.name) d)
  pub still : serving replied.machine.world.slots name ≡ Some slot
  pub others : OtherSlotsStay M (replacement_of slot.name) replied.machine
  pub listed : IsListed replied.machine.world.store (new_slot M (replacement_of slot.name) d)
  pub rows : OtherRowsStay M (index_id (replacement_of slot.name)) replied.machine

-- the row of this id was a document, and is now its tombstone, with this etag
pub record IsDeletedRow (M : Machine) (now : ℕ) (id : List ℕ) (etag : ℕ) (N : Machine) : Type 0 where
  pub row : Row
  pub there : document_at M.world.store (folded id) ≡ Some row
  pub deleted : row_at (folded id) N.world.store.rows ≡ Some (tombstone etag now row)

-- The name serves this definition, so the replacement that was being built goes, and its row is deleted. All other slots and rows stay as they were.
pub record IsReplacementDropped (M : Machine) (k : Keeping) (now : ℕ) (name : List ℕ) (d : Definition) (replied : Replied) : Type 0 where
  pub given : MayBeGiven name
  pub slot : Slot
  pub it : ServesIt M name d slot
  pub new : Slot
  pub built : IsBuiltFor M slot (Some new)
  pub allowed : AreRowsAllowed M k now (Command.Delete (index_id new.name) AnyVector ∷ [])
  pub reply : replied.reply ≡ Reply.Index slot.name
  pub gone : serving replied.machine.world.slots (replacement_of slot.name) ≡ None
  pub others : OtherSlotsStay M (replacement_of slot.name) replied.machine
  pub row : IsDeletedRow M now (index_id new.name) (last M.world.store + 1) replied.machine
  pub rows : OtherRowsStay M (index_id new.name) replied.machine

-- one of these
pub data IsDefineAnswer (M : Machine) (k : Keeping) (now : ℕ) (name : List ℕ) (d : Definition) (replied : Replied) : Type 0 where
  reserved : IsReserved M name replied → IsDefineAnswer M k now name d replied
  too_long : IsTooLong M name replied → IsDefineAnswer M k now name d replied
  served : ServesTheSame M name d replied → IsDefineAnswer M k now name d replied
  built : IsBuiltAlready M name d replied → IsDefineAnswer M k now name d replied
  too_many : IsOneTooMany M name d replied → IsDefineAnswer M k now name d replied
  refused : DefinitionIsRefused M now name d replied → IsDefineAnswer M k now name d replied
  failed : IsKeeperFault M k replied → IsDefineAnswer M k now name d replied
  defined : IsDefined M k now name d replied → IsDefineAnswer M k now name d replied
  replacing : IsNewReplacement M k now name d replied → IsDefineAnswer M k now name d replied
  dropped : IsReplacementDropped M k now name d replied → IsDefineAnswer M k now name d replied

abbrev pub DefineIsAnswered : Machine → Keeping → ℕ → List ℕ → Definition → Type 0
DefineIsAnswered M k now name d = IsDefineAnswer M k now name d (step M k now (Do (Define name d)))

-- REMOVING AN INDEX

pub record RemovalIsRefused (M : Machine) (now : ℕ) (name : List ℕ) (replied : Replied) : Type 0 where
  pub slot : Slot
  pub serves : serving M.world.slots name ≡ Some slot
  pub other : Option Slot
  pub built : IsBuiltFor M slot other
  pub row : IsRowRefused M now (taken_out M.world slot other).commands replied

-- the slots of all names but this one and that of its replacement stay as they were, and there are no more of them
pub record OtherNamesStay (M : Machine) (name : List ℕ) (N : Machine) : Type 0 where
  pub kept : (s : Slot) → Has M.world.slots s → is_named name s ≡ false → is_named (replacement_of name) s ≡ false → Has N.world.slots s
  pub no_more : (s : Slot) → Has N.world.slots s → is_named name s ≡ false → is_named (replacement_of name) s ≡ false → Has M.world.slots s

-- the rows of all ids but those of the definitions under this name and that of its replacement stay as they were
abbrev pub OtherIndexRowsStay : Machine → List ℕ → Machine → Type 0
OtherIndexRowsStay M name N =
    (q : List ℕ) → same_key q (folded (index_id name)) ≡ false → same_key q (folded (index_id (replacement_of name))) ≡ false → row_at q N.world.store.rows ≡ row_at q M.world.store.rows

-- The deletions are allowed. The index that served the name is gone, and with it the replacement that was being built for it; the rows of their
-- definitions are deleted. All other slots and rows stay as they were.
pub record IsRemoved (M : Machine) (k : Keeping) (now : ℕ) (name : List ℕ) (replied : Replied) : Type 0 where
  pub slot : Slot
  pub serves : serving M.world.slots name ≡ Some slot
  pub other : Option Slot
  pub built : IsBuiltFor M slot other
  pub allowed : AreRowsAllowed M k now (taken_out M.world slot other).commands
  pub reply : replied.reply ≡ Reply.Removed slot.name
  pub gone : serving replied.machine.world.slots name ≡ None
  pub alone : serving replied.machine.world.slots (replacement_of slot.name) ≡ None
  pub others : OtherNamesStay M slot.name replied.machine
  pub row : IsDeletedRow M now (index_id slot.name) (last M.world.store + 1) replied.machine
  pub other_row : (new : Slot) → other ≡ Some new → IsDeletedRow M now (index_id new.name) (last M.world.store + 2) replied.machine
  pub rows : OtherIndexRowsStay M slot.name replied.machine

abbrev pub IsRemoveAnswer : Machine → Keeping → ℕ → List ℕ → Replied → Type 0
IsRemoveAnswer M k now name replied =
    IsNoIndex M name replied ⊎ (RemovalIsRefused M now name replied ⊎ (IsKeeperFault M k replied ⊎ IsRemoved M k now name replied))

abbrev pub RemoveIsAnswered : Machine → Keeping → ℕ → List ℕ → Type 0
RemoveIsAnswered M k now name = IsRemoveAnswer M k now name (step M k now (Do (Remove name)))

-- SWITCHING A NAME

-- nothing is switched: no replacement is being built, or no more notes are allowed, or the replacement is stale on this very store
pub record HasNoReplacement (M : Machine) (name : List ℕ) (replied : Replied) : Type 0 where
  pub slot : Slot
  pub serves : serving M.world.slots name ≡ Some slot
  pub none : IsBuiltFor M slot None
  pub reply : replied ≡ same_machine M Reply.NoReplacement

pub record HasFullNotes (M : Machine) (name : List ℕ) (replied : Replied) : Type 0 where
  pub slot : Slot
  pub serves : serving M.world.slots name ≡ Some slot
  pub new : Slot
  pub built : IsBuiltFor M slot (Some new)
  pub full : M.world.setting.max_notes ≤ length M.world.notes
  pub reply : replied ≡ same_machine M Reply.NotesFull

pub record IsNotFresh (M : Machine) (name : List ℕ) (replied : Replied) : Type 0 where
  pub slot : Slot
  pub serves : serving M.world.slots name ≡ Some slot
  pub new : Slot
  pub built : IsBuiltFor M slot (Some new)
  pub room : length M.world.notes < M.world.setting.max_notes
  pub stale : is_stale M.world.store new ≡ true
  pub behind : new.version.etag < newest_read M.world.store new
  pub reply : replied ≡ same_machine M (Reply.NotFresh new.version.etag (newest_read M.world.store new))

pub record SwitchIsRefused (M : Machine) (now : ℕ) (name : List ℕ) (replied : Replied) : Type 0 where
  pub slot : Slot
  pub serves : serving M.world.slots name ≡ Some slot
  pub new : Slot
  pub built : IsBuiltFor M slot (Some new)
  pub row : IsRowRefused M now (takes_over M.world slot new).commands replied

-- The rows are allowed. The name is switched; the replacement stands under its own name no more, the row of the name has its definition, and the row
-- of its own name is deleted. All other slots and rows stay as they were.
pub record IsSwitched (M : Machine) (k : Keeping) (now : ℕ) (name : List ℕ) (replied : Replied) : Type 0 where
  pub slot : Slot
  pub serves : serving M.world.slots name ≡ Some slot
  pub switch : IsSwitch M.world replied.machine.world name slot
  pub allowed : AreRowsAllowed M k now (takes_over M.world slot switch.new).commands
  pub room : length M.world.notes < M.world.setting.max_notes
  pub reply : replied.reply ≡ Reply.Switched (last M.world.store + 1) slot.name
  pub gone : serving replied.machine.world.slots (replacement_of slot.name) ≡ None
  pub others : OtherNamesStay M slot.name replied.machine
  pub listed : IsListed replied.machine.world.store (named_anew slot.name (last M.world.store + 1) switch.new)
  pub row : IsDeletedRow M now (index_id switch.new.name) (last M.world.store + 2) replied.machine
  pub rows : OtherIndexRowsStay M slot.name replied.machine

pub data IsSwitchAnswer (M : Machine) (k : Keeping) (now : ℕ) (name : List ℕ) (replied : Replied) : Type 0 where
  no_index : IsNoIndex M name replied → IsSwitchAnswer M k now name replied
  no_replacement : HasNoReplacement M name replied → IsSwitchAnswer M k now name replied
  full : HasFullNotes M name replied → IsSwitchAnswer M k now name replied
  stale : IsNotFresh M name replied → IsSwitchAnswer M k now name replied
  refused : SwitchIsRefused M now name replied → IsSwitchAnswer M k now name replied
  failed : IsKeeperFault M k replied → IsSwitchAnswer M k now name replied
  switched : IsSwitched M k now name replied → IsSwitchAnswer M k now name replied

abbrev pub SwitchIsAnswered : Machine → Keeping → ℕ → List ℕ → Type 0
SwitchIsAnswered M k now name = IsSwitchAnswer M k now name (step M k now (Do (Switch name)))

-- A BATCH FOR ONE INDEX

-- the index that serves the name is advanced by a batch; the other slots and the store stay as they were
pub record IsAdvanced (M : Machine) (max : ℕ) (name : List ℕ) (replied : Replied) : Type 0 where
  pub slot : Slot
  pub serves : serving M.world.slots name ≡ Some slot
  pub reply : replied.reply ≡ Reply.Pumped (pumping M.world.store max slot ∷ [])
  pub brought : Has replied.machine.world.slots (after_batch M.world.store max slot)
  pub others : OtherSlotsStay M name replied.machine
  pub store : replied.machine.world.store ≡ M.world.store

abbrev pub BatchIsAnswered : Machine → Keeping → ℕ → ℕ → List ℕ → Type 0
BatchIsAnswered M k now max name = let replied = step M k now (Do (Pump max (Some name))) in IsNoIndex M name replied ⊎ IsAdvanced M max name replied
