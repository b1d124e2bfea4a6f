-- What the laws claim of a machine's writes.
use Rattle.std.specs.Prelude.{◌≡◌, ℕ, ◌+◌, List, [], ◌∷◌, ◌++◌, Bool, true, false, Some, None, Ok, Err, ◌⊎◌}
use Rattle.spec_data.specs.Data.{Data}
use Rattle.spec_data.specs.Folding.{folded, same_key}
use Rattle.spec_data.specs.Rows.{Row, doc}
use Rattle.spec_store.specs.Store.{Store, row_at, last}
use Rattle.spec_store.specs.Commit.{Command, Expect, Client, Refused, Written, after_commands, collection_of, commit, document_at, etags_taken, refusal_of, row_of, stored_body, tombstone, vector_of}
use Rattle.spec_query.specs.Query.{is_dynamic}
use Rattle.spec_server.specs.Replies.{Reply}
use Rattle.spec_server.specs.Requests.{Event, Keeping, Line, Do, Put, Delete, Bulk, Get, Find, Ask, Mask, Stale, Indexes, Stats, commands_on}
use Rattle.spec_server.specs.Courses.{Machine, Replied, is_first_taken, is_taken, same_machine}
use Rattle.spec_server.specs.Writes.{results_of, spelling, write_refused}
use Rattle.spec_server.specs.Machine.{after, run, step}

-- the row that a Put writes: the stored body under the next etag
abbrev pub row_given : Store → ℕ → List ℕ → Data → Row
row_given S now spelled body = record { etag = last S + 1; id = spelled; collection = collection_of body; body = doc (stored_body body); changed = now }

-- the commands are refused: the reply has the cause, and nothing changes
pub record IsRefused (M : Machine) (now : ℕ) (commands : List Command) (replied : Replied) : Type 0 where
  pub refused : Refused
  pub cause : commit M.world.setting Client now commands M.world.store ≡ Err refused
  pub reply : replied ≡ same_machine M (write_refused refused)

-- the keeper failed: the reply says so, and nothing changes
pub record IsKeeperFault (M : Machine) (k : Keeping) (replied : Replied) : Type 0 where
  pub later : List Bool
  pub failed : k.takes ≡ false ∷ later
  pub reply : replied ≡ same_machine M (Reply.KeeperFault k.before k.after)

-- the rows of all other ids, and the indexes, stay as they were
pub record OthersStay (M : Machine) (id : List ℕ) (N : Machine) : Type 0 where
  pub rows : (q : List ℕ) → same_key q (folded id) ≡ false → row_at q N.world.store.rows ≡ row_at q M.world.store.rows
  pub indexes : N.world.slots ≡ M.world.slots

-- no test refuses one command of a client, and the keeper takes its row
pub record IsAllowed (M : Machine) (k : Keeping) (command : Command) : Type 0 where
  pub unrefused : refusal_of M.world.setting Client M.world.store command ≡ None
  pub taken : is_first_taken k.takes ≡ true

-- The write is allowed. The document is in the store under its id, as spelled by an earlier row or as given, with the next etag, which the reply has.
pub record IsPut (M : Machine) (k : Keeping) (now : ℕ) (id : List ℕ) (expected : Expect) (body : Data) (replied : Replied) : Type 0 where
  pub allowed : IsAllowed M k (Command.Put id expected body)
  pub reply : replied.reply ≡ Reply.Put (vector_of M.world.setting.base (last M.world.store + 1)) (spelling M.world.store id)
  pub kept : row_at (folded id) replied.machine.world.store.rows ≡ Some (row_given M.world.store now (spelling M.world.store id) body)
  pub others : OthersStay M id replied.machine

abbrev pub PutIsAnswered : Machine → Keeping → ℕ → List ℕ → Expect → Data → Type 0
PutIsAnswered M k now id expected body =
    let replied = step M k now (Do (Put id expected body)) in
    IsRefused M now (Command.Put id expected body ∷ []) replied ⊎ (IsKeeperFault M k replied ⊎ IsPut M k now id expected body replied)

-- No test refuses. There was no document to delete, which the reply says, and nothing is changed.
pub record IsNotThere (M : Machine) (id : List ℕ) (expected : Expect) (replied : Replied) : Type 0 where
  pub unrefused : refusal_of M.world.setting Client M.world.store (Command.Delete id expected) ≡ None
  pub none : document_at M.world.store (folded id) ≡ None
  pub reply : replied ≡ same_machine M (Reply.Deleted false (spelling M.world.store id))

-- The deletion is allowed. The document was there, and its tombstone is in its place with the next etag.
pub record IsDeleted (M : Machine) (k : Keeping) (now : ℕ) (id : List ℕ) (expected : Expect) (replied : Replied) : Type 0 where
  pub allowed : IsAllowed M k (Command.Delete id expected)
  pub row : Row
  pub there : document_at M.world.store (folded id) ≡ Some row
  pub reply : replied.reply ≡ Reply.Deleted true row.id
  pub kept : row_at (folded id) replied.machine.world.store.rows ≡ Some (tombstone (last M.world.store + 1) now row)
  pub others : OthersStay M id replied.machine

abbrev pub DeleteIsAnswered : Machine → Keeping → ℕ → List ℕ → Expect → Type 0
DeleteIsAnswered M k now id expected =
    let replied = step M k now (Do (Delete id expected)) in
    IsRefused M now (Command.Delete id expected ∷ []) replied
    ⊎ (IsKeeperFault M k replied ⊎ (IsNotThere M id expected replied ⊎ IsDeleted M k now id expected replied))

-- No test refuses, and the keeper takes the rows, if there are any. All commands were written, one after another, and the reply reports each.
pub record AreWritten (M : Machine) (k : Keeping) (now : ℕ) (commands : List Command) (replied : Replied) : Type 0 where
  pub wrote : Written
  pub unrefused : commit M.world.setting Client now commands M.world.store ≡ Ok wrote
  pub taken : is_taken k.takes wrote.rows ≡ true
  pub reply : replied.reply ≡ Reply.Bulk (results_of M.world.setting.base replied.machine.world.store commands (etags_taken now commands M.world.store))
  pub written : replied.machine.world.store ≡ after_commands now commands M.world.store
  pub indexes : replied.machine.world.slots ≡ M.world.slots

abbrev pub BulkIsAnswered : Machine → Keeping → ℕ → List Command → Type 0
BulkIsAnswered M k now commands =
    let replied = step M k now (Do (Bulk commands)) in
    IsRefused M now commands replied ⊎ (IsKeeperFault M k replied ⊎ AreWritten M k now commands replied)

-- the row is what one of the commands writes to the store that those before it leave
pub record IsCommanded (now : ℕ) (commands : List Command) (S : Store) (r : Row) : Type 0 where
  pub earlier : List Command
  pub command : Command
  pub later : List Command
  pub among : commands ≡ earlier ++ command ∷ later
  pub given : row_of now (after_commands now earlier S) command ≡ Some r

-- a command that one of the events asks for wrote this row, and all commands of that event were taken
pub record IsWritten (M : Machine) (events : List Event) (r : Row) : Type 0 where
  pub before : List Event
  pub event : Event
  pub more : List Event
  pub asked : events ≡ before ++ event ∷ more
  pub given : IsCommanded event.now (commands_on event.line) (run before M).world.store r
  pub taken : (after (run before M) event).world.store ≡ after_commands event.now (commands_on event.line) (run before M).world.store

-- the line asks, and writes nothing; a query on a collection that needs an automatic index may make it
abbrev pub OnlyReads : Line → Type 0
OnlyReads (Do (Get id)) = Unit {0}
OnlyReads (Do (Find index field words)) = Unit {0}
OnlyReads (Do (Ask ask)) = is_dynamic ask.query ≡ false
OnlyReads (Do (Mask ask)) = Unit {0}
OnlyReads (Do (Stale name cutoff)) = Unit {0}
OnlyReads (Do Indexes) = Unit {0}
OnlyReads (Do Stats) = Unit {0}
OnlyReads other = ⊥
