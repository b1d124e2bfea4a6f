use Rattle.std.proofs.Common.{◌≡◌, map}
use Rattle.index_groups.specs.Trees.{insertion}
use Rattle.index_groups.proofs.groups.insertions.Given as goal

abbrev pub invariant-loop-pair : goal.invariant-loop-pair
invariant-loop-pair g l = l.keyed.items ≡ map (insertion l.names g.E.HasFields.fields) l.yielded
