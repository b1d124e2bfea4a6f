-- What a client's commands write, and the replies to them.
use Rattle.std.specs.Prelude.{ℕ, List, [], ◌∷◌, Option, Some, None, is_some, Result, Ok, Err}
use Rattle.spec_data.specs.Folding.{folded}
use Rattle.spec_store.specs.Store.{Store, row_at}
use Rattle.spec_store.specs.Commit.{Command, Client, Refusal, Written, Refused, commit, vector_of, row_spelling, etags_taken}
use Rattle.spec_server.specs.Replies.{Reply, UnknownLine}
use Rattle.spec_server.specs.Replies as replies
use Rattle.spec_index.specs.World.{World}
use Rattle.spec_server.specs.Courses.{Course, only_reply, one_change, in_world}

-- the reply to a transaction whose command at this place is refused
abbrev pub refused_at : ℕ → Refusal → Reply
refused_at at Refusal.ReservedId = replies.ReservedId at
refused_at at (Refusal.TooLarge len) = replies.TooLarge at len
refused_at at (Refusal.CollectionChanged from) = replies.CollectionChanged at from
refused_at at (Refusal.Conflict expected found) = replies.Conflict at expected found
refused_at at (Refusal.StoreFull rows) = replies.StoreFull at rows
refused_at at (Refusal.EtagsSpent etag) = replies.EtagsSpent at etag

abbrev pub write_refused : Refused → Reply
write_refused refused = refused_at refused.at refused.kind

-- the id as its row spells it, or as it was given if it has no row
abbrev pub spelling : Store → List ℕ → List ℕ
spelling S id = row_spelling id (row_at (folded id) S.rows)

-- what a command did that took this etag, with the id as the store N after the transaction spells it
abbrev pub result_of : List ℕ → Store → Command → Option ℕ → replies.Result
result_of base N (Command.Put id expected body) (Some etag) = replies.Result.Put (vector_of base etag) (spelling N id)
result_of base N (Command.Put id expected body) None = replies.Result.Put [] (spelling N id)
result_of base N (Command.Delete id expected) taken = replies.Result.Deleted (is_some taken) (spelling N id)

abbrev pub results_of : List ℕ → Store → List Command → List (Option ℕ) → List replies.Result
results_of base N [] etags = []
results_of base N (c ∷ cs) [] = []
results_of base N (c ∷ cs) (etag ∷ etags) = result_of base N c etag ∷ results_of base N cs etags

-- the reply to a single command, from its result
abbrev pub single_reply : List replies.Result → Reply
single_reply [] = UnknownLine
single_reply (replies.Result.Put vector id ∷ more) = replies.Put vector id
single_reply (replies.Result.Deleted deleted id ∷ more) = replies.Deleted deleted id

-- the change that the commands of a client make: all of them, or none
abbrev pub wrote : World → (List replies.Result → Reply) → ℕ → List Command → Result Written Refused → Course
wrote W reply now commands (Err refused) = only_reply (write_refused refused)
wrote W reply now commands (Ok w) =
    one_change (reply (results_of W.setting.base w.store commands (etags_taken now commands W.store))) w.rows (in_world W w.store W.slots)

abbrev pub write : World → (List replies.Result → Reply) → ℕ → List Command → Course
write W reply now commands = wrote W reply now commands (commit W.setting Client now commands W.store)
