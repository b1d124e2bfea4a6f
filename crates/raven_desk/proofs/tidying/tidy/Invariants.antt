use Rattle.std.proofs.Common.{drop}
use Rattle.raven_desk.proofs.Courses.{Goes}
use Rattle.raven_desk.proofs.tidying.tidy.Given as goal

-- the names that are left
abbrev pub invariant-loop-name : goal.invariant-loop-name
invariant-loop-name l = Goes l.now l.names l.world l.changes.items (drop l.name-index l.names) l.switched.items
