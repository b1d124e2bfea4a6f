use Rattle.std.proofs.Common.{◌≡◌, drop, map}
use Rattle.spec_server.specs.Options.{are_known}
use Rattle.raven_console.specs.ArgumentsView.{names_view, pair_view}
use Rattle.raven_console.proofs.pairs.are_known.Given as goal

abbrev pub invariant-loop-pair : goal.invariant-loop-pair
invariant-loop-pair l = record {
  left : are_known (names_view l.names) (map pair_view l.pairs) ≡ are_known (names_view l.names) (map pair_view (drop l.pair-index l.pairs));
}
