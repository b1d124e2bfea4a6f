use Rattle.std.proofs.Common.{◌≡◌, drop, map}
use Rattle.spec_data.specs.Data.{items_of}
use Rattle.raven_value.specs.View.{data_of}
use Rattle.spec_server.specs.Opening.{paths_of}
use Rattle.index_lang.proofs.ReadPaths.{paths_after}
use Rattle.index_lang.proofs.paths.each_path.Given as goal

abbrev pub invariant-loop-value : goal.invariant-loop-value
invariant-loop-value l = paths_after l.paths (items_of (map data_of (drop l.value-index l.values))) ≡ paths_of (items_of (map data_of l.values))
