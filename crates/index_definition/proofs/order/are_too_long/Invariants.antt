use Rattle.std.proofs.Common.{◌≡◌, ◌≤◌, ◌+◌, drop}
use Rattle.index_definition.proofs.Placing.{bytes_of}
use Rattle.index_definition.proofs.order.are_too_long.Given as goal

abbrev pub invariant-loop-pair : goal.invariant-loop-pair
invariant-loop-pair l = record {
  within : l.bytes ≤ 65536;
  so_far : l.bytes + bytes_of (drop l.pair-index l.items) ≡ bytes_of l.items;
}
