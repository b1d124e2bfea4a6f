use Rattle.std.proofs.Common.{map, take}
use Rattle.index_version.specs.Together.{AreIn}
use Rattle.index_version.proofs.together.groups_of.Given as goal

abbrev pub invariant-loop-version : goal.invariant-loop-version
invariant-loop-version l = AreIn (map (λ g. g.now) l.groups.items) (map (λ v. v.now.version) (take l.version-index l.versions))
