use Rattle.std.proofs.Common.{◌≡◌, drop, map}
use Rattle.spec_server.specs.Options.{value_named}
use Rattle.raven_console.specs.ArgumentsView.{pair_view}
use Rattle.raven_console.proofs.pairs.value_named.Given as goal

abbrev pub invariant-loop-pair : goal.invariant-loop-pair
invariant-loop-pair l = record {
  left : value_named l.name (map pair_view l.pairs) ≡ value_named l.name (map pair_view (drop l.pair-index l.pairs));
}
