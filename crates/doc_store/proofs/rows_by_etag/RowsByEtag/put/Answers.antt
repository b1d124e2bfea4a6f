use Rattle.std.proofs.Common.{◌≡◌, ◌+◌, ◌-◌, List, true, ◌∙◌, ap, arith, subst}
use Rattle.std.specs.Int.{from_bool}
use Rattle.std.specs.Ordering.{nat_cmp}
use Rattle.std.specs.BTreeMap.{insert_entry}
use Rattle.spec_data.specs.Rows.{Row, is_document, key}
use Rattle.spec_store.specs.Store.{put, row_at}
use Rattle.doc_store.specs.Maps.{ShowsByEtag, by_etag, etag_in, is_document_in, is_from, rows_in, without_etag}
use Rattle.doc_store.proofs.FromLemmas.{AreFrom-put}
use Rattle.doc_store.proofs.CountLemmas.{documents_put, room_for_one, some_document}
use Rattle.doc_store.proofs.MapLemmas.{shown_by_etag, put_is, put_shown, rows_in-by_etag}
use Rattle.doc_store.proofs.rows_by_etag.RowsByEtag.put.Goals as goal
use Rattle.doc_store.proofs.rows_by_etag.RowsByEtag.put.Goals.{In_ok-put}

-- the pairs are those beside the id's, and the new one
pairs_are : (c : In_ok-put) → c.in_ok-put.field-0 ≡ by_etag (put c.args.row c.args.self)
pairs_are c =
    let r : Row = c.args.row in
    let rows : List Row = c.args.self in
    let s : ShowsByEtag c.self.inside.rows c.self.inside.last c.self.inside.documents c.self.inside.least rows = shown_by_etag _ _ _ _ _ c.self.view_is c.self.invariant in
    let etag : c.behind-row.inside.etag ≡ r.etag = ap (λ (x : Row). x.etag) (c.behind-row.view_is ∙ c.get.ensures) in
    put_is rows r _ s.store c.requires.newer
    (c.in_ok-put.ensures.pairs
    ∙ ap (λ es. insert_entry nat_cmp es c.behind-row.inside.etag r) c.in_ok-beside.ensures
    ∙ ap (λ es. insert_entry nat_cmp (without_etag c.etag_in.result es) c.behind-row.inside.etag r) s.pairs
    ∙ ap (λ e. insert_entry nat_cmp (without_etag e (by_etag rows)) c.behind-row.inside.etag r) (c.etag_in.ensures ∙ ap etag_in c.requires.replaced)
    ∙ ap (λ e. insert_entry nat_cmp (without_etag (etag_in (row_at (key r) rows)) (by_etag rows)) e r) etag)

pub documents_with-documents-requires-clause-some : goal.documents_with-documents-requires-clause-some
documents_with-documents-requires-clause-some c =
    let s : ShowsByEtag c.self.inside.rows c.self.inside.last c.self.inside.documents c.self.inside.least c.args.self = shown_by_etag _ _ _ _ _ c.self.view_is c.self.invariant in
    some_document c.args.self c.args.row c.self.inside.documents c.args.replaced.now s.store.apart c.requires.replaced s.documents_are

pub documents_with-documents-requires-clause-few : goal.documents_with-documents-requires-clause-few
documents_with-documents-requires-clause-few c =
    let s : ShowsByEtag c.self.inside.rows c.self.inside.last c.self.inside.documents c.self.inside.least c.args.self = shown_by_etag _ _ _ _ _ c.self.view_is c.self.invariant in
    let etag : c.behind-row.inside.etag ≡ c.args.row.etag = ap (λ (x : Row). x.etag) (c.behind-row.view_is ∙ c.get.ensures) in
    let room = room_for_one c.args.self c.self.inside.documents c.args.row.etag s.store.rising s.documents_are c.requires.newer in
    omega arith

pub invariant_of-result : goal.invariant_of-result
invariant_of-result c =
    let s : ShowsByEtag c.self.inside.rows c.self.inside.last c.self.inside.documents c.self.inside.least c.args.self = shown_by_etag _ _ _ _ _ c.self.view_is c.self.invariant in
    put_shown c.args.self c.args.row _ _ _ _ s.store c.requires.newer (pairs_are c) (ap (λ (x : Row). x.etag) (c.behind-row.view_is ∙ c.get.ensures))
    (documents_put c.args.self c.args.row c.self.inside.documents _ c.args.replaced.now s.store.apart c.requires.replaced s.documents_are
    (c.documents_with-documents.ensures ∙ ap (λ (x : Row). c.self.inside.documents - from_bool (is_document_in c.args.replaced.now) + from_bool (is_document x)) c.get-3.ensures))
    (AreFrom-put c.self.inside.least c.in_ok-least.least c.args.row c.args.self c.in_ok-least.ensures.others (subst (λ (x : Row). is_from c.in_ok-least.least x ≡ true) c.get-2.ensures c.in_ok-least.ensures.own) s.from)

pub returns : goal.returns
returns c = ap rows_in (pairs_are (goal.at.returns c).In_ok-put) ∙ rows_in-by_etag (put c.args.row c.args.self)
