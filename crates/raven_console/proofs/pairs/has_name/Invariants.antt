use Rattle.std.proofs.Common.{◌≡◌, drop, map}
use Rattle.spec_server.specs.Options.{has_name}
use Rattle.raven_console.specs.ArgumentsView.{pair_view}
use Rattle.raven_console.proofs.pairs.has_name.Given as goal

abbrev pub invariant-loop-pair : goal.invariant-loop-pair
invariant-loop-pair l = record {
  left : has_name (map pair_view l.pairs) l.name ≡ has_name (map pair_view (drop l.pair-index l.pairs)) l.name;
}
