use Rattle.std.proofs.Common.{◌≡◌, ◌++◌, ◌&&◌, drop, filter, take}
use Rattle.std.specs.Str.{bytes_eq}
use Rattle.spec_data.specs.Rows.{is_document}
use Rattle.doc_store.specs.Maps.{rows_in}
use Rattle.doc_store.proofs.page.walked.Given as goal

-- those so far, and those that the page wants of the rows that are left
abbrev pub invariant-loop-want : goal.invariant-loop-want
invariant-loop-want l =
    l.found.items ++ take l.want (drop l.skip (filter (λ r. bytes_eq r.collection l.collection && is_document r) (rows_in l.rows)))
    ≡ take l.size (drop l.start (filter (λ r. bytes_eq r.collection l.collection && is_document r) (rows_in l.fn.rows)))

abbrev pub decreases-loop-want : goal.decreases-loop-want
decreases-loop-want l = l.left
