use Rattle.std.proofs.Common.{ap, ◌∙◌, map, []}
use Rattle.std.specs.List.{filter_map}
use Rattle.rql_results.specs.Documents.{document_of, found_in, included, result_of}
use Rattle.rql_eval.proofs.Finds.{found_parts, ids_in}
use Rattle.rql_eval.proofs.finding.find.Goals as goal

pub returns-clause-found : goal.returns-clause-found
returns-clause-found g c =
    let show = g.W.Show.shown c.args.show.now in
    let at = g.T.Lookup.rows c.args.rows.now in
    found_parts show at c.args.plan.now (g.E.Entries.entries c.args.entries.now) (map (λ e. (e.0.now, e.1.now)) c.in_ok-page.page.entries.items) c.in_ok-ids.ids c.in_ok-page.page.total
    (map found_in c.in_ok-documents.documents.items) c.in_ok-results.results c.in_ok-includes.includes
    c.in_ok-page.ensures.entries
    (c.in_ok-ids.ensures ∙ (ap (λ l. map (λ e. e.0.now) l) c.deref.ensures.value ∙ ids_in c.in_ok-page.page.entries.items))
    c.in_ok-page.ensures.total
    (c.in_ok-documents.ensures ∙ ap (filter_map (document_of at)) c.as_slice.ensures)
    (c.in_ok-results.ensures ∙ (ap (λ k. map (result_of show k) (map found_in c.deref-2.result.now)) c.columns.ensures ∙ ap (λ d. map (result_of show c.args.plan.now.columns) (map found_in d)) c.deref-2.ensures.value))
    (c.in_ok-includes.ensures ∙ (ap (λ p. included show at p (map found_in c.deref-3.result.now) []) c.includes.ensures ∙ ap (λ d. included show at c.args.plan.now.includes (map found_in d) []) c.deref-3.ensures.value))
