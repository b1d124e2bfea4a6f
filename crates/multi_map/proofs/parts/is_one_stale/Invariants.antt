use Rattle.std.proofs.Common.{◌≡◌, drop, map}
use Rattle.spec_server.specs.Several.{is_one_stale}
use Rattle.multi_map.proofs.parts.is_one_stale.Given as goal

abbrev pub invariant-loop-slot : goal.invariant-loop-slot
invariant-loop-slot l = is_one_stale l.store l.cutoff (map (λ s. s.now) (drop l.slot-index l.parts)) ≡ is_one_stale l.store l.cutoff (map (λ s. s.now) l.parts)
