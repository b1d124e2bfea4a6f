use Rattle.std.proofs.Common.{◌≡◌, drop}
use Rattle.std.specs.List.{list_any}
use Rattle.std.specs.Str.{bytes_eq}
use Rattle.raven_console.specs.ArgumentsView.{names_view}
use Rattle.raven_console.proofs.pairs.is_known.Given as goal

abbrev pub invariant-loop-known : goal.invariant-loop-known
invariant-loop-known l = record {
  left : list_any (bytes_eq l.name) (names_view l.names) ≡ list_any (bytes_eq l.name) (names_view (drop l.known-index l.names));
}
