use Rattle.std.proofs.Common.{◌≡◌, drop}
use Rattle.doc_store.specs.Opening.{are_next}
use Rattle.doc_store.proofs.opening.are_next.Given as goal

-- the rest decides
abbrev pub invariant-loop-row : goal.invariant-loop-row
invariant-loop-row l = are_next l.last (drop l.row-index l.rows) ≡ are_next 0 l.rows
