use Rattle.std.proofs.Common.{ap, ◌∙◌, map, [], length, false, filter}
use Rattle.spec_query.specs.Condition.{meets}
use Rattle.spec_query.specs.Sorting.{keys_order, sorted}
use Rattle.rql_results.specs.Rows.{included_by, row_result}
use Rattle.rql_eval.proofs.Paging.{cut_by}
use Rattle.rql_eval.proofs.Wholes.{found_rows, page_rows, row_lent, rows_page, rows_total}
use Rattle.rql_eval.proofs.rows.find_in_rows.Goals as goal

pub returns : goal.returns
returns g c =
    let show = g.W.Show.shown c.args.show.now in
    let at = g.T.Lookup.rows c.args.documents.now in
    let q = c.args.plan.now in
    let rows = c.args.rows.now in
    let met = c.in_ok-met.met.items in
    let are = c.in_ok-met.ensures ∙ ap (λ k. filter (meets k false) rows) c.condition.ensures in
    let sorts = c.in_ok-ordered.ensures ∙ ap (λ keys. sorted (λ a b. keys_order keys a.1.now b.1.now) met) c.order.ensures in
    let is_cut = cut_by q c.start.result c.size.result c.deref.result.now c.in_ok-ordered.ordered.items c.cut.result.now c.cut.ensures c.start.ensures c.size.ensures c.deref.ensures.value in
    let page_of = map (λ r. r.now) c.in_ok-page.page.items in
    let is_page = page_rows q rows _ page_of (c.in_ok-page.ensures ∙ ap (map row_lent) is_cut) (rows_page q rows met are c.in_ok-ordered.ordered.items sorts) in
    found_rows show at q rows page_of c.new.result _ c.in_ok-results.results c.in_ok-includes.includes is_page c.new.ensures
    (ap length c.as_slice.ensures.value ∙ rows_total q rows met are)
    (c.in_ok-results.ensures ∙ (ap (λ k. map (row_result k) (map (λ r. r.now) c.deref-2.result.now)) c.columns.ensures ∙ ap (λ d. map (row_result q.columns) (map (λ r. r.now) d)) c.deref-2.ensures.value))
    (c.in_ok-includes.ensures ∙ (ap (λ p. included_by show at p (map (λ r. r.now) c.deref-3.result.now) []) c.includes.ensures ∙ ap (λ d. included_by show at q.includes (map (λ r. r.now) d) []) c.deref-3.ensures.value))
