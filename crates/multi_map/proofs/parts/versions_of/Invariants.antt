use Rattle.std.proofs.Common.{◌≡◌, ◌++◌, drop, map}
use Rattle.multi_map.proofs.parts.versions_of.Given as goal

abbrev pub invariant-loop-slot : goal.invariant-loop-slot
invariant-loop-slot l = map (λ v. v.now.version) l.versions.items ++ map (λ s. s.now.version) (drop l.slot-index l.parts) ≡ map (λ s. s.now.version) l.parts
