use Rattle.std.proofs.Common.{◌≡◌, map, take}
use Rattle.spec_index.specs.Reduces.{key_member}
use Rattle.index_version.proofs.auto_reduce.key_members.Given as goal

abbrev pub invariant-loop-path : goal.invariant-loop-path
invariant-loop-path l = l.members ≡ map key_member (take l.path-index l.groups)
