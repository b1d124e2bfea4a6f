use Rattle.std.proofs.Common.{◌≡◌, ◌≤◌, ◌++◌, ◌-◌, drop, length, take}
use Rattle.std.specs.Ordering.{on}
use Rattle.spec_data.specs.Folding.{folded, key_cmp}
use Rattle.spec_query.specs.Sorting.{inserted}
use Rattle.side_by_side.proofs.waiting.insert.Given as goal

abbrev pub invariant-loop-at : goal.invariant-loop-at
invariant-loop-at l = (l.at ≤ length l.names.items) × (inserted (on folded key_cmp) l.name l.names.items ≡ take l.at l.names.items ++ inserted (on folded key_cmp) l.name (drop l.at l.names.items))

abbrev pub decreases-loop-at : goal.decreases-loop-at
decreases-loop-at l = length l.names.items - l.at
