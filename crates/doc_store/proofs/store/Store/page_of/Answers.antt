use Rattle.std.proofs.Common.{◌≡◌, ◌&&◌, IfSome, drop, filter, subst, sym, take, ap, ◌∙◌}
use Rattle.std.specs.FinMap.{values}
use Rattle.spec_data.specs.Rows.{is_document}
use Rattle.spec_data.specs.Tables.{table_of}
use Rattle.spec_store.specs.Store.{AreApart}
use Rattle.spec_store.proofs.StoreLemmas.{AreApart-filter}
use Rattle.doc_store.specs.Maps.{Shows, is_of, rows_in}
use Rattle.doc_store.proofs.FromLemmas.{documents_are, documents_from}
use Rattle.doc_store.proofs.MapLemmas.{shown}
use Rattle.doc_store.proofs.store.Store.page_of.Goals as goal

pub returns-in-Some-2 : goal.returns-in-Some-2
returns-in-Some-2 c =
    let rows = c.args.self.now.rows in
    let s : Shows c.self.inside.by_id c.self.inside.by_collection c.self.inside.last rows = shown _ _ _ _ _ _ _ c.self.view_is c.self.invariant in
    let page = subst (λ o. IfSome o (λ found. found.items ≡ take c.args.size (drop c.args.start (filter (λ r. is_of c.args.collection.now r && is_document r) (rows_in c.from-from.result))))) c.in-Some-2.is c.in_ok-page.ensures in
    page ∙ ap (λ xs. take c.args.size (drop c.args.start xs)) (
    ap (λ pairs. filter (λ r. is_of c.args.collection.now r && is_document r) (rows_in pairs)) c.from-from.ensures.pairs
    ∙ documents_from c.args.collection.now c.in-Some.least.now c.self.inside.by_id rows c.args.rows.now s.rising s.filed s.by_ids s.kept.store.apart c.requires c.in-Some.ensures)

pub gathered-requires : goal.gathered-requires
gathered-requires c =
    subst AreApart (sym (c.deref.ensures.value ∙ c.in_ok-documents.ensures.documents)) (AreApart-filter is_document c.args.rows.now c.in_ok-documents.ensures.store.apart)

pub returns : goal.returns
returns c =
    c.in_ok-gathered.ensures
    ∙ ap (λ xs. take c.args.size (drop c.args.start (values (table_of xs)))) (c.deref.ensures.value ∙ c.in_ok-documents.ensures.documents ∙ documents_are c.args.self.now.rows c.args.rows.now c.args.collection.now c.requires)
