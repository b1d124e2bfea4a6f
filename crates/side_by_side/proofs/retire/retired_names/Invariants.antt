use Rattle.std.proofs.Common.{◌≡◌, ◌++◌, drop, filter, map}
use Rattle.spec_index.specs.Optimiser.{is_retired}
use Rattle.spec_index.specs.World.{Slot}
use Rattle.side_by_side.proofs.retire.retired_names.Given as goal

abbrev pub invariant-loop-slot : goal.invariant-loop-slot
invariant-loop-slot l = l.names.items ++ map (λ (s : Slot). s.name) (filter (is_retired l.slots) (drop l.slot-index l.slots)) ≡ map (λ (s : Slot). s.name) (filter (is_retired l.slots) l.slots)
