use Rattle.std.proofs.Common.{◌≡◌, drop, map}
use Rattle.spec_server.specs.Several.{least_etag}
use Rattle.multi_map.proofs.parts.least_etag.Given as goal

abbrev pub invariant-loop-slot : goal.invariant-loop-slot
invariant-loop-slot l = least_etag l.least (map (λ s. s.now) (drop l.slot-index l.parts)) ≡ least_etag l.first.version.etag (map (λ s. s.now) l.parts)
