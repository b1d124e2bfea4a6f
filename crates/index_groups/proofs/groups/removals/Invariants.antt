use Rattle.std.proofs.Common.{◌≡◌, map}
use Rattle.index_groups.specs.Trees.{removal}
use Rattle.index_groups.proofs.groups.removals.Given as goal

abbrev pub invariant-loop-pair : goal.invariant-loop-pair
invariant-loop-pair g l = l.keyed.items ≡ map (removal l.names g.E.HasFields.fields) l.yielded
