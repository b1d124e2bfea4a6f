use Rattle.std.proofs.Common.{ap, ◌∙◌}
use Rattle.std.proofs.lemmas.Result.{IfOk-weaker}
use Rattle.std.specs.BTreeMap.{insert_entry}
use Rattle.spec_data.specs.Rows.{Row}
use Rattle.doc_store.specs.Maps.{id_cmp}
use Rattle.doc_store.proofs.rows.put_under_id.Goals as goal

pub put-requires-clause-keys : goal.put-requires-clause-keys
put-requires-clause-keys c = λ x y same. same

pub put-requires-clause-values : goal.put-requires-clause-values
put-requires-clause-values c = λ x y same. same

pub returns : goal.returns
returns c =
    let r : Row = c.args.row.now in
    IfOk-weaker c.put.result _ _ (λ changed is.
    is ∙ ap (λ id. insert_entry id_cmp c.args.rows id c.in_ok-shared.shared) (c.in_ok-id.ensures.cases ∙ ap (λ (x : Row). x.id) (c.behind-row.view_is ∙ c.get.ensures))
    ∙ ap (insert_entry id_cmp c.args.rows r.id) c.in_ok-shared.ensures.cases) c.put.ensures.pairs
