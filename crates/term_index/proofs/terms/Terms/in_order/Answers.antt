use Rattle.std.proofs.Common.{◌≡◌, ℕ, List, [], IfOk, IfSome, filter, map, take, drop, ap, sym, subst, ◌∙◌}
use Rattle.std.specs.FinMap.{entries}
use Rattle.std.specs.Option.{option_copied, option_map_or}
use Rattle.spec_data.specs.Folding.{folded}
use Rattle.spec_data.specs.Scalars.{Scalar}
use Rattle.spec_query.specs.Sorting.{sorted}
use Rattle.term_index.specs.Ordered.{by_value}
use Rattle.term_index.proofs.terms.Terms.in_order.Goals as goal

pub returns-in-Some : goal.returns-in-Some
returns-in-Some g c =
    subst (λ (es : List (List ℕ × Scalar)). IfOk c.in_order.result (λ page. IfSome page (λ ids. map folded ids ≡ map (λ e. e.0) (take c.args.size (drop c.args.start (sorted (by_value c.args.order.long c.args.order.desc) (filter (λ e. g.C.ValueCondition.meets c.args.condition.now e.1) es)))))))
    (ap (λ o. option_map_or entries o []) (sym (ap option_copied c.in-Some.is) ∙ c.column.ensures)) c.in_order.ensures
