-- The machine: the reply to a request, and the state after it.
use Rattle.std.specs.Prelude.{ℕ, ◌+◌, List, [], ◌∷◌}
use Rattle.spec_store.specs.Store.{last, empty_store}
use Rattle.spec_store.specs.Commit.{Command, Setting}
use Rattle.spec_index.specs.Optimiser.{pick}
use Rattle.spec_server.specs.Replies.{Index, Removed, Switched}
use Rattle.spec_server.specs.Replies as replies
use Rattle.spec_index.specs.World.{World, serving, define_named, remove, switch}
use Rattle.spec_server.specs.Asking.{answer_ask}
use Rattle.spec_server.specs.Requests.{Request, Put, Delete, Bulk, Get, Define, Remove, Auto, Find, Ask, Multi, Mask, Pump, Switch, Tidy, Clean, Stale, Indexes, Stats, Line, Do, Read, Publish, Keeping, Event}
use Rattle.spec_server.specs.Courses.{Machine, Replied, Change, Course, only_reply, settled}
use Rattle.spec_server.specs.Writes.{single_reply, write}
use Rattle.spec_server.specs.Indexing.{change_of_slots, use_or_make, ask_course, one_field, replaced_names, tidy, define_parts}
use Rattle.spec_server.specs.Batches.{pump_for, clean_course}
use Rattle.spec_server.specs.Answers.{answer_find, answer_stale, answer_indexes, answer_get, answer_stats}
use Rattle.spec_server.specs.Workers.{held_by, read_at, publish_by}
use Rattle.spec_server.specs.Several.{answer_several}

-- what a request does to a world
abbrev pub course_of : World → ℕ → Request → Course
course_of W now (Put id expected body) = write W single_reply now (Command.Put id expected body ∷ [])
course_of W now (Delete id expected) = write W single_reply now (Command.Delete id expected ∷ [])
course_of W now (Bulk commands) = write W replies.Bulk now commands
course_of W now (Get id) = only_reply (answer_get W id)
course_of W now (Define name definition) = change_of_slots W now Index name (define_named W name definition)
course_of W now (Multi parts) = define_parts now parts W []
course_of W now (Remove name) = change_of_slots W now Removed name (remove W name)
course_of W now (Auto collection field) = use_or_make W now (pick (one_field collection field) W.store W.slots)
course_of W now (Find index field ws) = only_reply (answer_find W index field ws (serving W.slots index))
course_of W now (Ask ask) = ask_course W now ask (answer_ask W ask)
course_of W now (Mask ask) = only_reply (answer_several W ask)
course_of W now (Pump max index) = pump_for W max index
course_of W now (Switch name) = change_of_slots W now (Switched (last W.store + 1)) name (switch W name)
course_of W now Tidy = tidy now (replaced_names W) W []
course_of W now Clean = clean_course W
course_of W now (Stale name cutoff) = only_reply (answer_stale W name cutoff (serving W.slots name))
course_of W now Indexes = only_reply (answer_indexes W)
course_of W now Stats = only_reply (answer_stats W)

-- the changes that a line makes, if the keeper takes the rows of all; what workers do is none, since it writes no rows
abbrev pub changes_of : World → ℕ → Line → List Change
changes_of W now (Do request) = (course_of W now request).changes
changes_of W now other = []

abbrev pub step : Machine → Keeping → ℕ → Line → Replied
step M k now (Do request) = settled M k (course_of M.world now request)
step M k now (Read worker max index) = read_at M worker max index (serving M.world.slots index)
step M k now (Publish worker) = publish_by M worker (held_by M.held worker)

-- a world of which no worker holds anything
abbrev pub machine_of : World → Machine
machine_of W = record { world = W; held = [] }

abbrev pub start : Setting → Machine
start setting = machine_of (record { setting = setting; store = empty_store; slots = []; notes = [] })

abbrev pub after : Machine → Event → Machine
after M e = (step M e.keeping e.now e.line).machine

-- the state after a list of events
abbrev pub run : List Event → Machine → Machine
run [] M = M
run (e ∷ es) M = run es (after M e)
