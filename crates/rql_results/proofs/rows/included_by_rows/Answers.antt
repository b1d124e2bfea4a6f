use Rattle.std.proofs.Common.{◌++◌, [], map, append-nil, sym, ap, ◌∙◌}
use Rattle.std.proofs.lemmas.List.{drop_all}
use Rattle.std.proofs.lemmas.Result.{IfOk-weaker}
use Rattle.rql_results.specs.Documents.{found_in}
use Rattle.rql_results.specs.Led.{led_by_rows, with_all}
use Rattle.rql_results.proofs.Leads.{rows_are}
use Rattle.rql_results.proofs.rows.included_by_rows.Goals as goal

pub returns : goal.returns
returns g c =
    let shown = g.W.Show.shown c.args.show.now in
    let at = g.T.Lookup.rows c.args.rows.now in
    IfOk-weaker c.shown_under_ids.result _ _ (λ members is.
    is
    ∙ ap (λ rows. with_all shown rows [])
    (sym (append-nil (map found_in c.loop-row.led.items))
    ∙ ap (λ l. map found_in c.loop-row.led.items ++ led_by_rows at c.args.paths.now (map (λ r. r.now) l)) (sym (drop_all c.loop-row.row-index c.args.found.now c.loop-row-test.false))
    ∙ c.loop-row.invariant)
    ∙ rows_are shown at c.args.paths.now (map (λ r. r.now) c.args.found.now) []) c.shown_under_ids.ensures
