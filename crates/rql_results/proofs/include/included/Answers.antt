use Rattle.std.proofs.Common.{◌++◌, [], map, append-nil, sym, ap, ◌∙◌}
use Rattle.std.proofs.lemmas.List.{drop_all}
use Rattle.std.proofs.lemmas.Result.{IfOk-weaker}
use Rattle.rql_results.specs.Documents.{found_in}
use Rattle.rql_results.specs.Led.{led_by_documents, with_all}
use Rattle.rql_results.proofs.Leads.{documents_are}
use Rattle.rql_results.proofs.include.included.Goals as goal

pub returns : goal.returns
returns g c =
    let shown = g.W.Show.shown c.args.show.now in
    let at = g.T.Lookup.rows c.args.rows.now in
    IfOk-weaker c.shown_under_ids.result _ _ (λ members is.
    is
    ∙ ap (λ rows. with_all shown rows [])
    (sym (append-nil (map found_in c.loop-found.led.items))
    ∙ ap (λ l. map found_in c.loop-found.led.items ++ led_by_documents at c.args.paths.now (map found_in l)) (sym (drop_all c.loop-found.found-index c.args.documents.now c.loop-found-test.false))
    ∙ c.loop-found.invariant)
    ∙ documents_are shown at c.args.paths.now (map found_in c.args.documents.now) []) c.shown_under_ids.ensures
