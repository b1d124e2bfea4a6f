use Rattle.std.proofs.Common.{ap, sym, ◌∙◌, ◌==◌, length}
use Rattle.rql_eval.proofs.Paging.{no_keys}
use Rattle.rql_eval.proofs.page.page_of.Goals as goal

pub page_by_id-requires : goal.page_by_id-requires
page_by_id-requires g c = no_keys c.args.plan.now.order (ap (λ k. length k == 0) (sym c.order.ensures) ∙ (sym c.is_empty.ensures ∙ c.if-is_empty.true))
