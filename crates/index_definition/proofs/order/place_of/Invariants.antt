use Rattle.std.proofs.Common.{◌≤◌, ◌-◌, length}
use Rattle.index_definition.proofs.Placing.{HasPassed}
use Rattle.index_definition.proofs.order.place_of.Given as goal

abbrev pub invariant-loop-i : goal.invariant-loop-i
invariant-loop-i l = record {
  within : l.i ≤ length l.items;
  passed : HasPassed l.path l.i l.items;
}

abbrev pub decreases-loop-i : goal.decreases-loop-i
decreases-loop-i l = length l.items - l.i
