use Rattle.std.proofs.Common.{◌≡◌, ◌++◌, map}
use Rattle.std.specs.List.{filter_map}
use Rattle.std.specs.Map.{values_of}
use Rattle.index_version.specs.Kept.{entry_given}
use Rattle.index_version.proofs.kept.Kept.ids.Given as goal

abbrev pub invariant-loop-pair : goal.invariant-loop-pair
invariant-loop-pair l = l.ids ++ map (λ e. e.0) (filter_map entry_given (values_of l.pair-iterator)) ≡ map (λ e. e.0) (filter_map entry_given (values_of l.self.given))
