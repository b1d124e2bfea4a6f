use Rattle.std.proofs.Common.{◌≡◌, length, map, string_bytes}
use Rattle.spec_server.specs.Options.{pairs_in}
use Rattle.raven_console.specs.ArgumentsView.{pair_view}
use Rattle.raven_console.proofs.PairLemmas.{onto}
use Rattle.raven_console.proofs.pairs.pairs_in.Given as goal

abbrev pub invariant-loop-name : goal.invariant-loop-name
invariant-loop-name l = record {
  read : pairs_in (map string_bytes l.fn.arguments) ≡ onto (map pair_view l.pairs.items) (pairs_in (map string_bytes l.rest));
}

abbrev pub decreases-loop-name : goal.decreases-loop-name
decreases-loop-name l = length l.rest
