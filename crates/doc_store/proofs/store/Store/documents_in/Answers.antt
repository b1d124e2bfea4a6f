use Rattle.std.proofs.Common.{◌≡◌, ◌&&◌, filter, length, sym, ap, ◌∙◌, arith}
use Rattle.spec_data.specs.Rows.{is_document}
use Rattle.doc_store.specs.Maps.{Shows, is_of}
use Rattle.doc_store.proofs.CountLemmas.{no_longer}
use Rattle.doc_store.proofs.FromLemmas.{documents_are, no_documents, own_is}
use Rattle.doc_store.proofs.MapLemmas.{shown}
use Rattle.doc_store.proofs.store.Store.documents_in.Goals as goal
use Rattle.doc_store.proofs.store.Store.documents_in.Goals.{After-documents}

count_is : (c : After-documents) → c.documents.result ≡ length (filter (λ r. is_of c.args.collection.now r && is_document r) c.args.self.now.rows)
count_is c =
    let s : Shows c.self.inside.by_id c.self.inside.by_collection c.self.inside.last c.args.self.now.rows = shown _ _ _ _ _ _ _ c.self.view_is c.self.invariant in
    c.documents.ensures ∙ ap length (documents_are c.args.self.now.rows c.in-Some.rows.now c.args.collection.now (own_is c.self.inside.by_collection _ _ _ c.in-Some.ensures.value s.by_collections))

pub overflow_cast-result : goal.overflow_cast-result
overflow_cast-result c =
    let s : Shows c.self.inside.by_id c.self.inside.by_collection c.self.inside.last c.args.self.now.rows = shown _ _ _ _ _ _ _ c.self.view_is c.self.invariant in
    let is = count_is (goal.at.overflow_cast-result c).After-documents in
    let most = no_longer (λ r. is_of c.args.collection.now r && is_document r) c.args.self.now.rows in
    let few = s.kept.within.rows in
    omega arith

pub returns-in-Some : goal.returns-in-Some
returns-in-Some c = count_is (goal.at.returns-in-Some c).After-documents

pub returns-in-None : goal.returns-in-None
returns-in-None c =
    let s : Shows c.self.inside.by_id c.self.inside.by_collection c.self.inside.last c.args.self.now.rows = shown _ _ _ _ _ _ _ c.self.view_is c.self.invariant in
    sym (ap length (no_documents c.self.inside.by_collection c.args.self.now.rows c.args.collection.now c.in-None.ensures.value s.by_collections))
