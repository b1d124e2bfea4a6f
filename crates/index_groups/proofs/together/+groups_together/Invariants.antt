use Rattle.std.proofs.Common.{length}
use Rattle.index_groups.proofs.together.+groups_together.Given as goal

abbrev pub decreases-groups_together : goal.decreases-groups_together
decreases-groups_together g l = length l.parts.now
