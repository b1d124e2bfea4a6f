use Rattle.std.proofs.Common.{◌≡◌, drop, map}
use Rattle.spec_data.specs.Data.{array, item, items_of}
use Rattle.raven_value.specs.View.{data_of}
use Rattle.spec_server.specs.Opening.{path_of}
use Rattle.index_lang.proofs.ReadPaths.{parts_after}
use Rattle.index_lang.proofs.paths.path_by.Given as goal

abbrev pub invariant-loop-value : goal.invariant-loop-value
invariant-loop-value l = parts_after l.path (items_of (map data_of (drop l.value-index l.more))) ≡ path_of (array (item (data_of l.first) (items_of (map data_of l.more))))
