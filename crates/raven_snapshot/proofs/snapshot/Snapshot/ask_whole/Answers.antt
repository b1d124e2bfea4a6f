use Rattle.std.proofs.Common.{◌≡◌, ap, ◌∙◌, drop, filter, length, take}
use Rattle.std.specs.FinMap.{values}
use Rattle.spec_data.specs.Tables.{table_of}
use Rattle.spec_store.specs.Store.{Store, last, row_at}
use Rattle.spec_index.specs.World.{World}
use Rattle.spec_query.specs.Finding.{find_entries, is_document_of}
use Rattle.spec_query.specs.Plan.{up_to}
use Rattle.spec_server.specs.Shown.{shown}
use Rattle.rql_eval.specs.FoundView.{found_view}
use Rattle.rql_eval.specs.Rows.{without_fields}
use Rattle.raven_snapshot.proofs.Asking.{in_collection}
use Rattle.raven_snapshot.proofs.Collections.{as_many}
use Rattle.raven_snapshot.proofs.snapshot.Snapshot.ask_whole.Goals as goal

pub returns : goal.returns
returns c =
    let W = c.args.self.now in
    let collection = c.args.collection.now in
    let q = c.in-Ok.plan in
    let S : Store = c.self.inside.store.now in
    let documents = values (table_of (filter (is_document_of collection) S.rows)) in
    let total : c.documents_in-total.result ≡ length documents = c.documents_in-total.ensures ∙ as_many (is_document_of collection) S c.last.ensures.store in
    let page : c.as_slice.result.now ≡ up_to q.size (drop q.start documents) =
    c.as_slice.ensures ∙ (c.in_ok-page.ensures ∙ (ap (λ n. take c.page_len-size.result (drop n documents)) c.start.ensures ∙ c.page_len-size.ensures.rows documents total)) in
    let found = c.in_ok-found.ensures documents page total ∙ ap (λ (w : World). find_entries (shown w.setting.base) (λ id. row_at id w.store.rows) q (without_fields documents)) c.self.view_is in
    let stored = ap (λ (w : World). values (table_of (filter (is_document_of collection) w.store.rows))) c.self.view_is in
    in_collection W c.args.ask.now collection q _ (found_view c.in_ok-found.found) documents _ _ c.answer_of.ensures found stored c.in-Ok.ensures.plan
    (c.last.ensures.last ∙ ap (λ (w : World). last w.store) c.self.view_is) c.in_ok-name.ensures c.in-Ok.ensures.passed
