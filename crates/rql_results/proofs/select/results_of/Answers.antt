use Rattle.std.proofs.Common.{◌++◌, ◌+◌, ap, sym, ◌∙◌, drop, map}
use Rattle.rql_results.specs.Documents.{found_in, result_of}
use Rattle.rql_results.proofs.Lists.{map_more}
use Rattle.rql_results.proofs.select.results_of.Goals as goal

pub loop-found-preserved : goal.loop-found-preserved
loop-found-preserved g c =
    let shown = result_of (g.W.Show.shown c.args.show.now) c.args.columns.now in
    ap (λ l. l ++ map shown (map found_in (drop (c.loop-found.found-index + 1) c.args.documents.now))) c.in_ok-push.ensures.ok
    ∙ (map_more found_in shown c.args.documents.now c.loop-found.found-index c.found-item.result c.loop-found.results _ c.loop-found-test.true (sym c.found-item.is) c.in_ok-result_of.ensures
    ∙ c.loop-found.invariant)
