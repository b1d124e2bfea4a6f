use Rattle.std.proofs.Common.{◌≡◌, map, take}
use Rattle.index_groups.specs.Cells.{field_of}
use Rattle.index_groups.proofs.plan.plan_of.Given as goal

abbrev pub invariant-loop-member : goal.invariant-loop-member
invariant-loop-member l = l.fields ≡ map (field_of l.names l.folds) (take l.member-index l.members)
