use Rattle.std.proofs.Common.{◌≡◌, ◌+◌, ◌-◌, ◌≤◌, length, false, filter, IfSome, subst, ap, ◌∙◌, arith}
use Rattle.spec_query.specs.Condition.{meets}
use Rattle.spec_query.specs.Plan.{meeting, page}
use Rattle.rql_eval.proofs.Paging.{page_no_longer, reads_in_turn, reads_less}
use Rattle.rql_eval.proofs.page.page_by_id.Goals as goal

pub returns-in_default-clause-reads : goal.returns-in_default-clause-reads
returns-in_default-clause-reads g c = reads_less _ _ _ _ (page_no_longer c.args.plan.now (g.E.Entries.entries c.args.entries.now)) c.gathered_page.ensures.reads

pub returns-in-None-clause-reads : goal.returns-in-None-clause-reads
returns-in-None-clause-reads g c =
    let q = c.args.plan.now in
    let es = g.E.Entries.entries c.args.entries.now in
    let known : c.in-Some.total ≡ length (filter (λ e. meets c.condition.result.now false e.1) es) = subst (λ o. IfSome o (λ n. n ≡ length (filter (λ e. meets c.condition.result.now false e.1) es))) c.in-Some.is c.in_ok-total.ensures.count in
    let total : c.in-Some.total ≡ length (meeting q es) = known ∙ ap (λ k. length (filter (λ e. meets k false e.1) es)) c.condition.ensures in
    let few : (c.in-Some.total - length (page q es)) + length (page q es) ≤ length (meeting q es) = omega (arith, total, page_no_longer q es) in
    reads_less _ _ _ _ few (reads_in_turn _ _ _ _ _ c.in_ok-entries.ensures.reads c.gathered_page-in-None.ensures.reads)
