use Rattle.std.proofs.Common.{◌≡◌, IfSome, Some, false, filter, map, ap, subst}
use Rattle.spec_data.specs.Folding.{folded}
use Rattle.spec_query.specs.Condition.{meets}
use Rattle.spec_query.specs.Sorting.{SortKey}
use Rattle.term_index.specs.Ordered.{values_named}
use Rattle.rql_filter.specs.OneField.{met_by, with_value}
use Rattle.rql_filter.proofs.Values.{ids_of_part}
use Rattle.rql_filter.proofs.ordered.matching_in_order.Goals as goal

pub returns-in_ok-ids_of_values : goal.returns-in_ok-ids_of_values
returns-in_ok-ids_of_values g c =
    let found = filter (λ e. meets c.args.condition.now false e.1) (g.E.Entries.entries c.args.entries.now) in
    let are = subst (λ field. filter (λ v. met_by c.args.condition.now false (Some v.1)) (values_named field c.terms-terms.result.now) ≡ map (with_value field) found) (ap (λ (k : SortKey). k.field) c.key.view_is)
    (c.is_known_of_values.ensures c.if-is_known_of_values.true) in
    subst (λ l. IfSome c.in_ok-ids_of_values.field-0 (λ ids. map folded ids ≡ l)) (ids_of_part c.args.key.now c.args.start c.args.size _ found are) c.in_ok-ids_of_values.ensures
