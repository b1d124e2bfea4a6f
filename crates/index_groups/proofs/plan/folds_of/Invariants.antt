use Rattle.std.proofs.Common.{◌≡◌, drop}
use Rattle.index_groups.specs.Cells.{folds_of, with_all_needed}
use Rattle.index_groups.proofs.plan.folds_of.Given as goal

abbrev pub invariant-loop-member : goal.invariant-loop-member
invariant-loop-member l = with_all_needed (drop l.member-index l.members) l.folds ≡ folds_of l.members
