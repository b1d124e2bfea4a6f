use Rattle.std.proofs.Common.{sym, ◌∙◌}
use Rattle.doc_store.specs.Maps.{Shows}
use Rattle.doc_store.proofs.FromLemmas.{no_documents, no_page, own_is}
use Rattle.doc_store.proofs.MapLemmas.{shown}
use Rattle.doc_store.proofs.store.Store.documents_page.Goals as goal

pub page_of-requires : goal.page_of-requires
page_of-requires c =
    let s : Shows c.self.inside.by_id c.self.inside.by_collection c.self.inside.last c.args.self.now.rows = shown _ _ _ _ _ _ _ c.self.view_is c.self.invariant in
    own_is c.self.inside.by_collection _ _ _ c.in-Some.ensures.value s.by_collections

pub returns-in-None : goal.returns-in-None
returns-in-None c =
    let s : Shows c.self.inside.by_id c.self.inside.by_collection c.self.inside.last c.args.self.now.rows = shown _ _ _ _ _ _ _ c.self.view_is c.self.invariant in
    c.new.ensures ∙ sym (no_page c.args.size c.args.start _ (no_documents c.self.inside.by_collection c.args.self.now.rows c.args.collection.now c.in-None.ensures.value s.by_collections))
