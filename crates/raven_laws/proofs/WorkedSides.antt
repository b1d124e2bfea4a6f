-- Examples that were worked out by hand: batches that workers hold, and automatic indexes that take in others.
use Rattle.std.proofs.Common.{◌≡◌, List, [], ◌∷◌, true, false, None, refl, codes}
use Rattle.std.specs.Fmt.{digits}
use Rattle.spec_store.specs.Commit.{AnyVector}
use Rattle.spec_store.specs.Limits.{program}
use Rattle.spec_index.specs.Optimiser.{plain_name}
use Rattle.spec_server.specs.Requests.{Ask, Auto, Clean, Do, Line, Publish, Pump, Read, Request, Stats, Tidy, takes_all}
use Rattle.spec_server.specs.Courses.{Machine}
use Rattle.spec_server.specs.Machine.{start, step}
use Rattle.spec_server.specs.Replies.{Reply, Index, Pumped, Tidied}
use Rattle.raven_laws.proofs.WorkedRows.{moved, put, replies, replies_from, was_put}
use Rattle.raven_laws.proofs.WorkedQueries.{of_users}

abbrev line_replies : Machine → List Line → List Reply
line_replies M [] = []
line_replies M (l ∷ ls) = (step M takes_all 0 l).reply ∷ line_replies (step M takes_all 0 l).machine ls

-- two workers read the same batch, and a write comes between: the first publishes it, and the second is too late
held_across : line_replies (start program) (Do (Auto (codes "C") (codes "F")) ∷ Do (put (codes "C") (codes "x") (codes "F") (codes "a")) ∷ Read 0 64 (codes "Auto/C/ByF") ∷ Read 1 64 (codes "Auto/C/ByF")
    ∷ Do (put (codes "C") (codes "x") (codes "F") (codes "b")) ∷ Publish 0 ∷ Publish 1 ∷ Publish 1 ∷ [])
    ≡ Index (codes "Auto/C/ByF") ∷ was_put (codes "2") (codes "x") ∷ Reply.Held 0 2 ∷ Reply.Held 0 2 ∷ was_put (codes "3") (codes "x")
    ∷ Reply.Published 0 (codes "Auto/C/ByF") 2 ∷ Reply.Passed 2 ∷ Reply.NothingHeld ∷ []
unfolding digits
held_across = refl

-- a batch is published after its index is removed: it is gone
held_too_long : line_replies (start program) (Do (Auto (codes "C") (codes "F")) ∷ Do (put (codes "C") (codes "x") (codes "F") (codes "a")) ∷ Read 0 64 (codes "Auto/C/ByF") ∷ Do (Request.Remove (codes "Auto/C/ByF")) ∷ Publish 0 ∷ [])
    ≡ Index (codes "Auto/C/ByF") ∷ was_put (codes "2") (codes "x") ∷ Reply.Held 0 2 ∷ Reply.Removed (codes "Auto/C/ByF") ∷ Reply.Gone 1 ∷ []
unfolding digits
held_too_long = refl

-- the row with the greatest etag stays; once a tombstone is cleaned its id may be put into another collection
cleaned : replies (put (codes "Users") (codes "a") (codes "F") (codes "a") ∷ Request.Delete (codes "a") AnyVector ∷ put (codes "Teams") (codes "a") (codes "F") (codes "a") ∷ Clean
    ∷ put (codes "C") (codes "b") (codes "F") (codes "a") ∷ Clean ∷ put (codes "Teams") (codes "a") (codes "F") (codes "a") ∷ [])
    ≡ was_put (codes "1") (codes "a") ∷ Reply.Deleted true (codes "a") ∷ Reply.CollectionChanged 0 (codes "Users") ∷ Reply.CleanDone 0 1
    ∷ was_put (codes "3") (codes "b") ∷ Reply.CleanDone 1 2 ∷ was_put (codes "4") (codes "a") ∷ []
unfolding digits
cleaned = refl

-- a batch that is held has a document whose tombstone was cleaned since: it is not published
held_across_a_cleaning : line_replies (start program) (Do (Auto (codes "Users") (codes "F")) ∷ Do (put (codes "Users") (codes "x") (codes "F") (codes "a")) ∷ Read 0 64 (codes "Auto/Users/ByF")
    ∷ Do (Request.Delete (codes "x") AnyVector) ∷ Do (put (codes "C") (codes "y") (codes "F") (codes "a")) ∷ Do Clean ∷ Publish 0 ∷ Do (Pump 64 None) ∷ Do (Request.Stale (codes "Auto/Users/ByF") None) ∷ [])
    ≡ Index (codes "Auto/Users/ByF") ∷ was_put (codes "2") (codes "x") ∷ Reply.Held 0 2 ∷ Reply.Deleted true (codes "x") ∷ was_put (codes "4") (codes "y") ∷ Reply.CleanDone 1 3
    ∷ Reply.Cleaned 3 ∷ Pumped (moved 0 (codes "Auto/Users/ByF") 0 ∷ []) ∷ Reply.Stale 0 false 0 ∷ []
unfolding digits
held_across_a_cleaning = refl

-- if there is room for no index, a query that needs one is refused, and no etag is used
no_room : replies_from (start (record program { max_slots = 1 })) (Auto (codes "C") (codes "F") ∷ Ask (of_users (codes "Name") (codes "a")) ∷ Stats ∷ []) ≡ Index (codes "Auto/C/ByF") ∷ Reply.TooManyIndexes ∷ Reply.Stats 0 1 0 1 ∷ []
unfolding digits
no_room = refl

-- a wider index is made beside a narrower one, which answers while it is the fresh one, and is retired when the wider is as far
wider : replies (put (codes "Users") (codes "users/1") (codes "Name") (codes "Ada") ∷ Auto (codes "Users") (codes "Name") ∷ Pump 64 None ∷ Auto (codes "Users") (codes "Age") ∷ Auto (codes "Users") (codes "Name")
    ∷ Tidy ∷ Pump 64 None ∷ Tidy ∷ Auto (codes "Users") (codes "Name") ∷ [])
    ≡ was_put (codes "1") (codes "users/1") ∷ Index (codes "Auto/Users/ByName") ∷ Pumped (moved 0 (codes "Auto/Users/ByName") 2 ∷ []) ∷ Index (codes "Auto/Users/ByAgeAndName") ∷ Index (codes "Auto/Users/ByName")
    ∷ Tidied [] [] ∷ Pumped (moved 2 (codes "Auto/Users/ByName") 2 ∷ moved 0 (codes "Auto/Users/ByAgeAndName") 3 ∷ []) ∷ Tidied (codes "Auto/Users/ByName" ∷ []) [] ∷ Index (codes "Auto/Users/ByAgeAndName") ∷ []
unfolding digits
wider = refl

grouped_name : plain_name (record { collection = codes "Orders"; grouped = true; groups = (codes "Company" ∷ []) ∷ []; fields = (codes "Cents" ∷ []) ∷ [] })
    ≡ codes "Auto/Orders/ByCentsAndCountReducedByCompany"
grouped_name = refl
