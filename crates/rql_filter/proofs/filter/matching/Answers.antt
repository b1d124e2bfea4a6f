use Rattle.std.proofs.Common.{false}
use Rattle.spec_query.specs.Condition.{meets}
use Rattle.rql_filter.proofs.Sets.{of_those_that_pass}
use Rattle.rql_filter.proofs.filter.matching.Goals as goal

pub returns-clause-ids : goal.returns-clause-ids
returns-clause-ids g c =
    of_those_that_pass (λ e. meets c.args.condition.now false e.1) _ (g.E.Entries.entries c.args.entries.now) c.terms-terms.ensures.order
    c.in_ok-ids_that_meet.ensures.order c.in_ok-ids_that_meet.ensures.members
