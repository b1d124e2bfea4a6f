-- What a request does to a world.
use Rattle.std.specs.Prelude.{ℕ, List, [], ◌∷◌, ◌++◌, Option, Some, None}
use Rattle.raven_reply.specs.ReplyView.{reply_view}
use Rattle.spec_server.specs.Courses as is
use Rattle.raven_world.specs.declared.switch.Taken.{Taken}
use Rattle.raven_world.specs.declared.world.Made.{Made}
use Rattle.raven_desk.specs.declared.course.Course.{Course}

abbrev pub course_view : Course → is.Course
course_view c = record { changes = c.changes.items; reply = reply_view c.reply }

-- these changes, and then this course
abbrev pub after_changes : List is.Change → is.Course → is.Course
after_changes changes course = record { changes = changes ++ course.changes; reply = course.reply }

-- these changes and that of what was made
abbrev pub change_with : List is.Change → Made → List is.Change
change_with changes m = changes ++ is.storing m.rows m.world ∷ []

-- these changes and that of a switch, if there is one
abbrev pub changes_with : List is.Change → Option Taken → List is.Change
changes_with changes None = changes
changes_with changes (Some t) = changes ++ is.storing t.rows t.world ∷ []

-- and the names
abbrev pub names_with : List (List ℕ) → Option Taken → List (List ℕ)
names_with names None = names
names_with names (Some t) = names ++ t.name ∷ []
