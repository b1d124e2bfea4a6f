use Rattle.std.proofs.Common.{◌≡◌}
use Rattle.std.specs.List.{filter_map, slice_get}
use Rattle.std.specs.Map.{values_of}
use Rattle.index_version.specs.Kept.{entry_given}
use Rattle.index_version.proofs.kept.first_entry.Given as goal

abbrev pub invariant-loop-pair : goal.invariant-loop-pair
invariant-loop-pair l = slice_get (filter_map entry_given (values_of l.pair-iterator)) 0 ≡ slice_get (filter_map entry_given (values_of l.fn.pairs)) 0
