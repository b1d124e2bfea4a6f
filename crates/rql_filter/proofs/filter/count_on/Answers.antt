use Rattle.std.proofs.Common.{arith}
use Rattle.rql_filter.proofs.OneField.{met_counted, others_counted}
use Rattle.rql_filter.proofs.filter.count_on.Goals as goal

pub returns-then-not-missing : goal.returns-then-not-missing
returns-then-not-missing g c =
    met_counted c.args.condition.now c.is_met_by-missing.result (g.E.Entries.entries c.args.entries.now) c.in_ok-count.count c.if-not-missing.true c.in_ok-count.ensures

pub overflow_sub-result : goal.overflow_sub-result
overflow_sub-result g c =
    let es = g.E.Entries.entries c.args.entries.now in
    omega (arith, c.len.ensures, others_counted c.args.condition.now c.is_met_by-missing.result es c.in_ok-count.count c.in-Some.others c.if-not-missing.false c.in-Some.is c.in_ok-count.ensures)

pub returns-in-Some : goal.returns-in-Some
returns-in-Some g c =
    let es = g.E.Entries.entries c.args.entries.now in
    omega (arith, c.len.ensures, others_counted c.args.condition.now c.is_met_by-missing.result es c.in_ok-count.count c.in-Some.others c.if-not-missing.false c.in-Some.is c.in_ok-count.ensures)
