use Rattle.std.proofs.Common.{◌≡◌, ◌++◌, drop, filter, not}
use Rattle.spec_index.specs.Optimiser.{is_retired}
use Rattle.side_by_side.proofs.retire.kept.Given as goal

abbrev pub invariant-loop-slot : goal.invariant-loop-slot
invariant-loop-slot l = l.new.items ++ filter (λ s. not (is_retired l.slots s)) (drop l.slot-index l.slots) ≡ filter (λ s. not (is_retired l.slots s)) l.slots
