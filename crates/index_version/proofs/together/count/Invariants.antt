use Rattle.std.proofs.Common.{◌≡◌, ◌<◌, ◌^◌, length, map, take}
use Rattle.index_version.specs.Together.{entries_together}
use Rattle.index_version.proofs.together.count.Given as goal

abbrev pub invariant-loop-version : goal.invariant-loop-version
invariant-loop-version l = record {
  counted : l.count ≡ length (entries_together (map (λ v. v.now.version) (take l.version-index l.versions)));
  few : l.count < 2 ^ 64;
}
