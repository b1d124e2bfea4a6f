use Rattle.std.proofs.Common.{◌++◌, append-nil, not, ◌∙◌, ap, subst, sym}
use Rattle.std.proofs.lemmas.List.{drop_all}
use Rattle.std.specs.Ordering.{nat_cmp}
use Rattle.paged_map.specs.Pairs.{IsRising}
use Rattle.spec_data.specs.Rows.{is_document}
use Rattle.spec_store.proofs.StoreLemmas.{AreRising-filter}
use Rattle.doc_store.specs.Maps.{by_etag, tombstones}
use Rattle.doc_store.proofs.MapLemmas.{by_etag-rises}
use Rattle.doc_store.proofs.tombstones.tombstones_of.Goals as goal

pub from_sorted-requires-clause-rising : goal.from_sorted-requires-clause-rising
from_sorted-requires-clause-rising c =
    subst (IsRising nat_cmp)
    (sym c.loop-row.invariant ∙ ap (λ rows. c.loop-row.pairs.items ++ by_etag (tombstones rows)) (drop_all c.loop-row.row-index c.args.rows.now c.loop-row-test.false) ∙ append-nil c.loop-row.pairs.items)
    (by_etag-rises 0 (tombstones c.args.rows.now) (AreRising-filter 0 (λ r. not (is_document r)) c.args.rows.now c.requires))
