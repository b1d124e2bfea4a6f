use Rattle.std.proofs.Common.{ap, ◌∙◌}
use Rattle.spec_query.specs.Query.{Query, is_empty}
use Rattle.rql_plan.proofs.Shaped.{empty_is}
use Rattle.rql_plan.proofs.shapes.has_no_order.Goals as goal

pub returns : goal.returns
returns c = empty_is _ _ c.is_empty.ensures ∙ ap (λ (q : Query). is_empty q.sorts) c.query.view_is
