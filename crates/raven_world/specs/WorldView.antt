-- What the answers of a world say of the course of a request.
use Rattle.std.specs.Prelude.{ℕ, List, [], ◌∷◌, ◌++◌, Option, Some, None, Result, Ok, Err}
use Rattle.spec_index.specs.World as is
use Rattle.spec_query.specs.Query as query
use Rattle.spec_server.specs.Asking.{answer_from_index}
use Rattle.spec_server.specs.Replies.{Index, Reply}
use Rattle.spec_server.specs.Courses.{Course, one_change, only_reply, storing, then_course}
use Rattle.raven_reply.specs.ReplyView.{reply_view}
use Rattle.raven_world.specs.declared.switch.Taken.{Taken}
use Rattle.raven_world.specs.declared.world.Change.{Change}
use Rattle.raven_world.specs.declared.world.Made.{Made}
use Rattle.raven_world.specs.declared.world.WorldFault.{WorldFault}
use Rattle.raven_world.specs.declared.world.WorldFault.TheVariants.{Refused, NoMemory}

-- a course of one change
abbrev pub change_view : Change → Course
change_view c = one_change (reply_view c.reply) c.rows c.world

-- one change, or a refusal, which changes nothing
abbrev pub answer_view : Result Change WorldFault → Option Course
answer_view (Ok c) = Some (change_view c)
answer_view (Err (Refused reply)) = Some (only_reply (reply_view reply))
answer_view (Err NoMemory) = None

-- the course of a request for which an index was made, by what is replied of it; a refusal changes nothing
abbrev pub made_view : (Made → Reply) → Result Made WorldFault → Option Course
made_view told (Ok m) = Some (one_change (told m) m.rows m.world)
made_view told (Err (Refused reply)) = Some (only_reply (reply_view reply))
made_view told (Err NoMemory) = None

-- its name
abbrev pub named : Made → Reply
named m = Index m.name

-- or what the query finds in it, in the world that it was made in
abbrev pub answering : query.Ask → Made → Reply
answering ask m = answer_from_index m.world ask m.name (is.serving m.world.slots m.name)

-- a course of several switches, from the try of one on: with it and without it the course goes on with `more`, from the world and the names that are
-- switched so far; a refusal ends it
abbrev pub tried_view : is.World → List (List ℕ) → (is.World → List (List ℕ) → Course) → Result (Option Taken) WorldFault → Option Course
tried_view W switched more (Ok None) = Some (more W switched)
tried_view W switched more (Ok (Some t)) = Some (then_course (storing t.rows t.world) (more t.world (switched ++ t.name ∷ [])))
tried_view W switched more (Err (Refused reply)) = Some (only_reply (reply_view reply))
tried_view W switched more (Err NoMemory) = None
