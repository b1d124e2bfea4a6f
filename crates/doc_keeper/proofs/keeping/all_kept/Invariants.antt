use Rattle.std.proofs.Common.{◌≡◌, take}
use Rattle.spec_data.specs.Kept.{all_kept}
use Rattle.doc_keeper.proofs.keeping.all_kept.Given as goal

abbrev pub invariant-loop-row : goal.invariant-loop-row
invariant-loop-row l = l.all ≡ all_kept (take l.row-index l.row-items)
