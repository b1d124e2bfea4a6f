use Rattle.std.proofs.Common.{◌≡◌, ◌∷◌, [], sym, ap, ◌∙◌}
use Rattle.std.specs.Option.{unwrap_or}
use Rattle.std.proofs.lemmas.Result.{IfOk-weaker}
use Rattle.rql_eval.proofs.OrderedPages.{alone, ids_given}
use Rattle.rql_eval.proofs.Walking.{if_some}
use Rattle.rql_eval.proofs.ordered.ids_in_order.Goals as goal

pub returns-in-len1 : goal.returns-in-len1
returns-in-len1 g c =
    let one : c.args.plan.now.order ≡ c.key-item.result ∷ [] = sym c.order.ensures ∙ alone c.order.result.now c.key-item.result c.in-len1.len_at_least c.in-len1.len_below c.key-item.is in
    let sized = c.unwrap_or-size.ensures ∙ ap (λ o. unwrap_or o c.args.total) c.size.ensures in
    IfOk-weaker c.matching_in_order.result _ _
    (λ found h.
    if_some _ _ found
    (ids_given c.args.plan.now (g.E.Entries.entries c.args.entries.now) c.key-item.result one c.args.total c.start.result c.unwrap_or-size.result c.requires c.start.ensures sized c.condition.result.now c.condition.ensures) h)
    c.matching_in_order.ensures
