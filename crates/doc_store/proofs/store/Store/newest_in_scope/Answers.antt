use Rattle.std.proofs.Common.{◌∙◌, sym}
use Rattle.doc_store.specs.Maps.{Shows}
use Rattle.doc_store.proofs.MapLemmas.{shown, store_shown}
use Rattle.doc_store.proofs.NewestLemmas.{newest_in_map, newest_step, newest_last}
use Rattle.doc_store.proofs.store.Store.newest_in_scope.Goals as goal

pub loop-collection-preserved : goal.loop-collection-preserved
loop-collection-preserved c =
    let s : Shows c.self.inside.by_id c.self.inside.by_collection c.self.inside.last c.args.self.now.rows = shown _ _ _ _ _ _ _ c.self.view_is c.self.invariant in
    newest_step c.args.self.now c.args.scope.now c.args.upto c.loop-collection.collection-index c.collection-item.result _ _ _ s.kept.store c.loop-collection-test.true (sym c.collection-item.is)
    (c.newest_of.ensures ∙ newest_in_map c.self.inside.by_collection c.args.self.now c.collection-item.result c.args.upto (s.by_collections c.collection-item.result))
    c.max-newest.ensures c.loop-collection.invariant

pub returns-clause-newest : goal.returns-clause-newest
returns-clause-newest c =
    newest_last c.args.self.now c.args.scope.now c.args.upto c.loop-collection.collection-index _ c.loop-collection-test.false c.loop-collection.invariant

pub returns-clause-sound : goal.returns-clause-sound
returns-clause-sound c = store_shown _ _ _ _ _ _ _ c.self.view_is c.self.invariant
