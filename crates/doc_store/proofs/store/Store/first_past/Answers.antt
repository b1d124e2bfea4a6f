use Rattle.std.proofs.Common.{◌∙◌, ap, sym, arith}
use Rattle.raven_base.specs.Counts.{Counts}
use Rattle.doc_store.specs.Maps.{Shows}
use Rattle.doc_store.proofs.MapLemmas.{shown, store_shown}
use Rattle.doc_store.proofs.WalkLemmas.{first_in_map, first_step, first_last}
use Rattle.doc_store.proofs.store.Store.first_past.Goals as goal

pub loop-collection-preserved : goal.loop-collection-preserved
loop-collection-preserved g c =
    let s : Shows c.self.inside.by_id c.self.inside.by_collection c.self.inside.last c.args.self.now.rows = shown _ _ _ _ _ _ _ c.self.view_is c.self.invariant in
    record {
      first = first_step c.args.scope.now c.args.etag c.args.self.now.rows c.loop-collection.collection-index c.collection-item.result _ _ _ s.kept.store.rising c.loop-collection-test.true (sym c.collection-item.is)
          (c.first_of.ensures.row ∙ first_in_map c.self.inside.by_collection c.args.self.now.rows c.collection-item.result c.args.etag (s.by_collections c.collection-item.result))
          c.earlier-first.ensures c.loop-collection.invariant.first;
      within = let here = c.loop-collection-test.true in omega arith;
      maps = ap (λ (done : Counts). done.maps) c.first_of.ensures.counted ∙ c.loop-collection.invariant.maps;
      merges = ap (λ (done : Counts). done.merges) c.first_of.ensures.counted ∙ c.loop-collection.invariant.merges;
      reads = let more = ap (λ (done : Counts). done.reads) c.first_of.ensures.counted in let so_far = c.loop-collection.invariant.reads in omega arith;
    }

pub returns-clause-row : goal.returns-clause-row
returns-clause-row g c =
    first_last c.args.scope.now c.args.etag c.args.self.now.rows c.loop-collection.collection-index _ c.loop-collection-test.false c.loop-collection.invariant.first

pub returns-clause-reads : goal.returns-clause-reads
returns-clause-reads g c =
    let so_far = c.loop-collection.invariant.reads in
    let within = c.loop-collection.invariant.within in
    let all = c.loop-collection-test.false in
    omega arith

pub returns-clause-sound : goal.returns-clause-sound
returns-clause-sound g c = store_shown _ _ _ _ _ _ _ c.self.view_is c.self.invariant
