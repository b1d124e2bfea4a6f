use Rattle.std.proofs.Common.{◌≡◌, IfSome, filter, map, take, drop, subst}
use Rattle.std.specs.FinMap.{entries}
use Rattle.spec_data.specs.Folding.{folded}
use Rattle.spec_query.specs.Sorting.{sorted}
use Rattle.term_index.specs.Held.{Values}
use Rattle.term_index.specs.Ordered.{by_value}
use Rattle.term_index.proofs.column.Column.in_order.Goals as goal

pub returns : goal.returns
returns g c =
    subst (λ (m : Values). IfSome c.in_ok-ids_in_order.field-0 (λ ids. map folded ids ≡ map (λ e. e.0) (take c.args.size (drop c.args.start (sorted (by_value c.args.order.long c.args.order.desc) (filter (λ e. g.C.ValueCondition.meets c.args.condition.now e.1) (entries m)))))))
    c.self.view_is c.in_ok-ids_in_order.ensures
