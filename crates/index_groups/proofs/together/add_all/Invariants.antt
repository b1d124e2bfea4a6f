use Rattle.std.proofs.Common.{◌≡◌, ◌++◌, take}
use Rattle.index_groups.proofs.together.add_all.Given as goal

abbrev pub invariant-loop-group : goal.invariant-loop-group
invariant-loop-group l = l.groups.items ≡ l.initial.groups.items ++ take l.group-index l.more
