use Rattle.std.proofs.Common.{◌≡◌, drop}
use Rattle.spec_store.specs.Store.{last_of}
use Rattle.doc_store.proofs.rows.last_etag.Given as goal

-- the last etag of all rows is that of the rest, from here
abbrev pub invariant-loop-row : goal.invariant-loop-row
invariant-loop-row l = last_of l.etag (drop l.row-index l.rows) ≡ last_of 0 l.rows
