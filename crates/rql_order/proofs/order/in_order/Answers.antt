use Rattle.std.proofs.Common.{rules, ◌∙◌}
use Rattle.spec_query.specs.Sorting.{keys_order}
use Rattle.rql_order.specs.Values.{sort_values}
use Rattle.rql_order.specs.contracts.value.SortValueOrd.TheImpl.{ghosts}
use Rattle.rql_order.proofs.Ranks.{ByForms, sort_values_order, sorted_rows}
use Rattle.rql_order.proofs.order.in_order.Goals as goal

by_forms : ByForms ghosts.cmp
by_forms = record { numbers = λ m n. search rules; texts = λ s t. search rules; numbers_down = λ m n. search rules; texts_down = λ s t. search rules }

pub returns : goal.returns
returns g c =
    c.in_ok-without_values.ensures
    ∙ sorted_rows (λ v. v.items) (λ r. sort_values c.args.keys.now r.1.now) ghosts.cmp (λ a b. keys_order c.args.keys.now a.1.now b.1.now) (λ a b. sort_values_order ghosts.cmp by_forms c.args.keys.now a.1.now b.1.now)
    c.args.rows.items c.in_ok-ranked.ranked.items c.in_ok-ordered.ordered.items c.in_ok-ranked.ensures c.in_ok-ordered.ensures
