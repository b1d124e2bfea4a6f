use Rattle.std.proofs.Common.{◌∙◌, sym}
use Rattle.raven_desk.proofs.Courses.{last_world}
use Rattle.raven_desk.proofs.tidying.world_after.Goals as goal

pub returns-in-Some : goal.returns-in-Some
returns-in-Some c = c.world.ensures ∙ sym (last_world c.args.world.now c.args.changes.now c.in-Some.change.now (sym c.in-Some.ensures.value))
