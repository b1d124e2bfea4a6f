use Rattle.std.proofs.Common.{ap, ◌∙◌}
use Rattle.spec_query.specs.Sorting.{keys_order, sorted}
use Rattle.rql_eval.proofs.Paging.{cut_by, cut_sorted}
use Rattle.rql_eval.proofs.page.cut_in_order.Goals as goal

pub returns-clause-entries : goal.returns-clause-entries
returns-clause-entries g c =
    cut_sorted c.args.plan.now (λ e. (e.0.now, e.1.now)) c.in_ok-found.found.items c.in_ok-ordered.ordered.items c.in_ok-from_slice.field-0.items _ c.in_ok-found.ensures.entries
    (c.in_ok-ordered.ensures ∙ ap (λ keys. sorted (λ a b. keys_order keys a.1.now b.1.now) c.in_ok-found.found.items) c.order.ensures)
    (cut_by c.args.plan.now c.start.result c.size.result c.deref.result.now c.in_ok-ordered.ordered.items c.in_ok-from_slice.field-0.items (c.in_ok-from_slice.ensures.items ∙ c.cut.ensures) c.start.ensures c.size.ensures c.deref.ensures.value)
