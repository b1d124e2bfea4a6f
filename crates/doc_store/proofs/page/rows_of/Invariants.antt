use Rattle.std.proofs.Common.{◌≡◌, take}
use Rattle.doc_store.specs.Maps.{rows_in}
use Rattle.doc_store.proofs.page.rows_of.Given as goal

abbrev pub invariant-loop-pair : goal.invariant-loop-pair
invariant-loop-pair l = l.rows.items ≡ rows_in (take l.pair-index l.pairs)
