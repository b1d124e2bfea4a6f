use Rattle.std.proofs.Common.{◌≡◌, drop, map}
use Rattle.spec_server.specs.Several.{other_part}
use Rattle.multi_map.proofs.parts.other_part.Given as goal

abbrev pub invariant-loop-slot : goal.invariant-loop-slot
invariant-loop-slot l = other_part l.first (map (λ s. s.now) (drop l.slot-index l.parts)) ≡ other_part l.first (map (λ s. s.now) l.parts)
