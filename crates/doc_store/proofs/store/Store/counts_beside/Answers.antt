use Rattle.std.proofs.Common.{◌<◌, ◌^◌, not, ◌∙◌, ap, sym, subst}
use Rattle.spec_data.specs.Rows.{is_document}
use Rattle.doc_store.specs.Maps.{Shows, passing_beside}
use Rattle.doc_store.proofs.MapLemmas.{shown}
use Rattle.doc_store.proofs.CountLemmas.{sum_few, sum_is}
use Rattle.doc_store.proofs.store.Store.counts_beside.Goals as goal
use Rattle.doc_store.proofs.store.Store.counts_beside.Goals.{After-iter}

shows : (c : After-iter) → Shows c.self.inside.by_id c.self.inside.by_collection c.self.inside.last c.args.self.now.rows
shows c = shown _ _ _ _ _ _ _ c.self.view_is c.self.invariant

pub counts_beside-requires-clause-documents : goal.counts_beside-requires-clause-documents
counts_beside-requires-clause-documents c =
    let s = shows (goal.at.counts_beside-requires-clause-documents c).After-iter in
    subst (λ pairs. passing_beside is_document c.args.collection.now pairs < 2 ^ 32) (sym c.iter.ensures.pairs)
    (sum_few is_document c.args.collection.now c.self.inside.by_collection c.args.self.now.rows c.iter.ensures.rising s.by_collections s.kept.within.rows)

pub counts_beside-requires-clause-tombstones : goal.counts_beside-requires-clause-tombstones
counts_beside-requires-clause-tombstones c =
    let s = shows (goal.at.counts_beside-requires-clause-tombstones c).After-iter in
    subst (λ pairs. passing_beside (λ r. not (is_document r)) c.args.collection.now pairs < 2 ^ 32) (sym c.iter.ensures.pairs)
    (sum_few (λ r. not (is_document r)) c.args.collection.now c.self.inside.by_collection c.args.self.now.rows c.iter.ensures.rising s.by_collections s.kept.within.rows)

pub returns-clause-documents : goal.returns-clause-documents
returns-clause-documents c =
    let s = shows (goal.at.returns-clause-documents c).After-iter in
    c.counts_beside.ensures.documents ∙ ap (passing_beside is_document c.args.collection.now) c.iter.ensures.pairs
    ∙ sum_is is_document c.args.collection.now c.self.inside.by_collection c.args.self.now.rows c.iter.ensures.rising s.by_collections

pub returns-clause-tombstones : goal.returns-clause-tombstones
returns-clause-tombstones c =
    let s = shows (goal.at.returns-clause-tombstones c).After-iter in
    c.counts_beside.ensures.tombstones ∙ ap (passing_beside (λ r. not (is_document r)) c.args.collection.now) c.iter.ensures.pairs
    ∙ sum_is (λ r. not (is_document r)) c.args.collection.now c.self.inside.by_collection c.args.self.now.rows c.iter.ensures.rising s.by_collections
