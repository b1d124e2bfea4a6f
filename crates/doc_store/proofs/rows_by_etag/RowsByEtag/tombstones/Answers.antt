use Rattle.std.proofs.Common.{◌≡◌, length, sym, ◌∙◌, ap, arith}
use Rattle.std.proofs.lemmas.List.{length-map}
use Rattle.spec_data.specs.Rows.{is_document}
use Rattle.doc_store.specs.Maps.{ShowsByEtag}
use Rattle.doc_store.proofs.CountLemmas.{gone_are, no_longer}
use Rattle.doc_store.proofs.MapLemmas.{shown_by_etag}
use Rattle.doc_store.proofs.rows_by_etag.RowsByEtag.tombstones.Goals as goal
use Rattle.doc_store.proofs.rows_by_etag.RowsByEtag.tombstones.Goals.{After-len}

shows : (c : After-len) → ShowsByEtag c.self.inside.rows c.self.inside.last c.self.inside.documents c.self.inside.least c.args.self.now
shows c = shown_by_etag _ _ _ _ _ c.self.view_is c.self.invariant

len_is : (c : After-len) → c.len.result ≡ length c.args.self.now
len_is c = c.len.ensures.count ∙ sym (length-map c.self.inside.rows (λ e. e.1)) ∙ ap length c.self.view_is

pub overflow_sub-result : goal.overflow_sub-result
overflow_sub-result c =
    let s = shows (goal.at.overflow_sub-result c).After-len in
    let len = len_is (goal.at.overflow_sub-result c).After-len in
    let documents = s.documents_are in
    let most = no_longer is_document c.args.self.now in
    omega arith

pub returns : goal.returns
returns c =
    let s = shows (goal.at.returns c).After-len in
    gone_are c.args.self.now c.self.inside.documents _ s.documents_are (len_is (goal.at.returns c).After-len)
