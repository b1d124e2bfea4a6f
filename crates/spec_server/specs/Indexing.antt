-- How the indexes change, with their rows, which are written by the server.
use Rattle.std.specs.Prelude.{ℕ, ◌+◌, List, [], ◌∷◌, ◌++◌, Bool, false, is_some, Result, Ok, Err, filter, map}
use Rattle.std.specs.Ordering.{on}
use Rattle.spec_data.specs.Faults.{replacement_of}
use Rattle.spec_data.specs.Folding.{folded, key_cmp}
use Rattle.spec_store.specs.Store.{last}
use Rattle.index_tree.specs.Definitions.{Definition}
use Rattle.spec_query.specs.Query as query
use Rattle.spec_query.specs.Sorting.{sorted}
use Rattle.spec_store.specs.Commit.{Server, Written, Refused, commit}
use Rattle.spec_index.specs.Optimiser.{Shape, Choice, Use, Make, definition_of, name_of, retired, retirement}
use Rattle.spec_server.specs.Replies.{Reply, Index, NoIndex, Tidied, UnknownLine}
use Rattle.spec_server.specs.Replies as replies
use Rattle.spec_index.specs.World.{Slot, World, serving, SlotChange, SlotRefusal, define, define_named, switch}
use Rattle.spec_server.specs.Asking.{Answered, MustMake, Ready, answer_from_index}
use Rattle.spec_server.specs.Courses.{storing, Course, then_course, only_reply, one_change, changed}
use Rattle.spec_server.specs.Writes.{write_refused}

-- the reply if a change of the indexes is refused; NameServes has no reply of its own, since it cannot occur
abbrev pub slot_refused : List ℕ → SlotRefusal → Reply
slot_refused name SlotRefusal.NameServes = UnknownLine
slot_refused name SlotRefusal.NoIndex = NoIndex name
slot_refused name SlotRefusal.NoReplacement = replies.NoReplacement
slot_refused name SlotRefusal.NotesFull = replies.NotesFull
slot_refused name (SlotRefusal.NotFresh index_etag newest) = replies.NotFresh index_etag newest
slot_refused name SlotRefusal.ReservedName = replies.ReservedName
slot_refused name SlotRefusal.TooManyIndexes = replies.TooManyIndexes
slot_refused name (SlotRefusal.NameTooLong len) = replies.NameTooLong len

abbrev pub rewrote : World → Reply → SlotChange → Result Written Refused → Course
rewrote W reply c (Err refused) = only_reply (write_refused refused)
rewrote W reply c (Ok w) = one_change reply w.rows (changed W w.store c)

-- the reply has the name as the slot spells it, which may differ from the request
abbrev pub change_of_slots : World → ℕ → (List ℕ → Reply) → List ℕ → Result SlotChange SlotRefusal → Course
change_of_slots W now reply name (Err refusal) = only_reply (slot_refused name refusal)
change_of_slots W now reply name (Ok c) = rewrote W (reply c.name) c (commit W.setting Server now c.commands W.store)

-- the name of the index that is made for a shape
abbrev pub made_name : World → Shape → List ℕ
made_name W shape = name_of W.slots (last W.store + 1) shape

abbrev pub make : World → Shape → Result SlotChange SlotRefusal
make W shape = define W (made_name W shape) (definition_of shape)

-- the index that was picked, or a new one of the shape
abbrev pub use_or_make : World → ℕ → Choice → Course
use_or_make W now (Use s) = only_reply (Index s.name)
use_or_make W now (Make shape) = change_of_slots W now Index (made_name W shape) (make W shape)

-- the query is answered in the world that the change leaves
abbrev pub answer_made : World → query.Ask → SlotChange → Result Written Refused → Course
answer_made W ask c (Err refused) = only_reply (write_refused refused)
answer_made W ask c (Ok w) = let V = changed W w.store c in one_change (answer_from_index V ask c.name (serving V.slots c.name)) w.rows V

abbrev pub answer_making : World → ℕ → query.Ask → List ℕ → Result SlotChange SlotRefusal → Course
answer_making W now ask name (Err refusal) = only_reply (slot_refused name refusal)
answer_making W now ask name (Ok c) = answer_made W ask c (commit W.setting Server now c.commands W.store)

-- what a query does: nothing, or the automatic index that it needs is made first
abbrev pub ask_course : World → ℕ → query.Ask → Answered → Course
ask_course W now ask (Ready reply) = only_reply reply
ask_course W now ask (MustMake shape) = answer_making W now ask (made_name W shape) (make W shape)

-- the shape of a query for one field
abbrev pub one_field : List ℕ → List ℕ → Shape
one_field collection field = record { collection = collection; grouped = false; groups = []; fields = (field ∷ []) ∷ [] }

-- TIDYING

abbrev pub has_replacement : World → Slot → Bool
has_replacement W s = is_some (serving W.slots (replacement_of s.name))

-- the names that have a replacement, in the order of their folded bytes
abbrev pub replaced_names : World → List (List ℕ)
replaced_names W = sorted (on folded key_cmp) (map (λ s. s.name) (filter (has_replacement W) W.slots))

-- the reply if a retirement is made: the names that are switched, and those of the indexes that go
abbrev pub tidied : World → List (List ℕ) → Reply
tidied W switched = Tidied (map (λ s. s.name) (retired W.slots)) switched

-- all retired indexes go in one change
abbrev pub retire : World → ℕ → List (List ℕ) → Course
retire W now switched = let c = retirement W in rewrote W (tidied W switched) c (commit W.setting Server now c.commands W.store)

-- a change, and what comes after it
abbrev pub switch_and : World → SlotChange → (World → Course) → Result Written Refused → Course
switch_and W c more (Err refused) = only_reply (write_refused refused)
switch_and W c more (Ok w) = then_course (storing w.rows (changed W w.store c)) (more (changed W w.store c))

-- a name that may not be switched is passed over
abbrev pub try_switch : World → ℕ → List (List ℕ) → (World → List (List ℕ) → Course) → Result SlotChange SlotRefusal → Course
try_switch W now switched more (Err refusal) = more W switched
try_switch W now switched more (Ok c) = switch_and W c (λ V. more V (switched ++ c.name ∷ [])) (commit W.setting Server now c.commands W.store)

-- the names are tried one after another, each on the world that the switches before it leave, and then the retired indexes go
abbrev pub tidy : ℕ → List (List ℕ) → World → List (List ℕ) → Course
tidy now [] W switched = retire W now switched
tidy now (name ∷ names) W switched = try_switch W now switched (λ V done. tidy now names V done) (switch W name)

-- SEVERAL MAPS

-- a definition, and what comes after it
abbrev pub define_then : World → ℕ → List ℕ → (World → List ℕ → Course) → Result SlotChange SlotRefusal → Course
define_then W now name more (Err refusal) = only_reply (slot_refused name refusal)
define_then W now name more (Ok c) = switch_and W c (λ V. more V c.name) (commit W.setting Server now c.commands W.store)

-- the parts are defined one after another, each in the world that those before it leave, up to the first that is refused
abbrev pub define_parts : ℕ → List (List ℕ × Definition) → World → List (List ℕ) → Course
define_parts now [] W names = only_reply (replies.Defined names)
define_parts now (p ∷ parts) W names = define_then W now p.0 (λ V name. define_parts now parts V (names ++ name ∷ [])) (define_named W p.0 p.1)
