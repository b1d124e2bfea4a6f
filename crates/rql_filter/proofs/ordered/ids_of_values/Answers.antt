use Rattle.std.proofs.Common.{◌≡◌, ℕ, List, IfSome, Some, ◌++◌, Bool, drop, false, filter, map, take, ap, subst, ◌∙◌}
use Rattle.std.specs.Borrow.{Bor}
use Rattle.spec_data.specs.Folding.{folded}
use Rattle.spec_query.specs.Sorting.{SortKey, sorted}
use Rattle.raven_value.specs.declared.matching.Test.{Test}
use Rattle.term_index.specs.Ordered.{by_value, values_named}
use Rattle.rql_filter.specs.OneField.{lent_tests, met_by, tests_of}
use Rattle.rql_filter.proofs.OneField.{tests_decide}
use Rattle.rql_filter.proofs.ordered.ids_of_values.Goals as goal

pub in_order-requires : goal.in_order-requires
in_order-requires c =
    tests_decide c.args.condition.now false _
    (ap (λ (ts : List (Bor Test × Bool)). lent_tests ts) c.deref.ensures.value
    ∙ (c.in_ok-add_tests.ensures
    ∙ ap (λ (ts : List (Bor Test × Bool)). lent_tests ts ++ tests_of c.args.condition.now false) c.new-tests.ensures.items))

pub returns : goal.returns
returns c =
    let given : List ℕ → SortKey → List (List ℕ) = λ field k.
    map (λ v. v.0) (take c.args.size (drop c.args.start (sorted (by_value k.long k.desc) (filter (λ v. met_by c.args.condition.now false (Some v.1)) (values_named field c.args.terms.now))))) in
    subst (λ k. IfSome c.in_ok-in_order.field-0 (λ ids. map folded ids ≡ given k.field k)) c.key.view_is
    (subst (λ field. IfSome c.in_ok-in_order.field-0 (λ ids. map folded ids ≡ given field (record { field = c.key.inside.field; long = c.key.inside.long; desc = c.key.inside.desc }))) c.as_str.ensures c.in_ok-in_order.ensures)
