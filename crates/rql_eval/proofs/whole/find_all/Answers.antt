use Rattle.std.proofs.Common.{ap, ◌∙◌, map, [], drop}
use Rattle.std.specs.List.{filter_map}
use Rattle.spec_query.specs.Plan.{up_to}
use Rattle.rql_results.specs.Documents.{document_of, found_in, included, result_of}
use Rattle.rql_eval.specs.Rows.{ids_of_rows, without_fields}
use Rattle.rql_eval.proofs.Finds.{found_parts}
use Rattle.rql_eval.proofs.Wholes.{ids_without, whole_page, whole_total}
use Rattle.rql_eval.proofs.whole.find_all.Goals as goal

pub returns : goal.returns
returns g c = λ documents is_page is_total.
    let show = g.W.Show.shown c.args.show.now in
    let at = g.T.Lookup.rows c.args.rows.now in
    let q = c.args.plan.now in
    let cut = up_to q.size (drop q.start documents) in
    found_parts show at q (without_fields documents) (without_fields cut) c.in_ok-ids.ids c.args.total
    (map found_in c.in_ok-found.found.items) c.in_ok-results.results c.in_ok-includes.includes
    (whole_page q documents c.requires.condition c.requires.order)
    (c.in_ok-ids.ensures ∙ (ap ids_of_rows is_page ∙ ids_without cut))
    (is_total ∙ whole_total q documents c.requires.condition)
    (c.in_ok-found.ensures ∙ ap (filter_map (document_of at)) c.as_slice.ensures)
    (c.in_ok-results.ensures ∙ (ap (λ k. map (result_of show k) (map found_in c.deref.result.now)) c.columns.ensures ∙ ap (λ d. map (result_of show q.columns) (map found_in d)) c.deref.ensures.value))
    (c.in_ok-includes.ensures ∙ (ap (λ p. included show at p (map found_in c.deref-2.result.now) []) c.includes.ensures ∙ ap (λ d. included show at q.includes (map found_in d) []) c.deref-2.ensures.value))
