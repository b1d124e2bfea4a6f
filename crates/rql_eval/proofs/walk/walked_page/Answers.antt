use Rattle.std.proofs.Common.{◌≡◌, ◌≤◌, ◌-◌, length, drop, false, filter, take, ap, ◌∙◌, arith}
use Rattle.spec_query.specs.Condition.{meets}
use Rattle.spec_query.specs.Plan.{meeting, page}
use Rattle.rql_eval.proofs.Paging.{plain_page, reads_less}
use Rattle.rql_eval.proofs.Walking.{if_some, page_of_length}
use Rattle.rql_eval.proofs.walk.walked_page.Goals as goal

pub returns-clause-entries : goal.returns-clause-entries
returns-clause-entries g c =
    let q = c.args.plan.now in
    let es = g.E.Entries.entries c.args.entries.now in
    let size = c.page_len-size.result in
    if_some _ _ c.in_ok-found.found
    (λ found h.
    h
    ∙ (ap (λ k. take size (drop c.start-2.result (filter (λ e. meets k false e.1) es))) c.condition.ensures
    ∙ (ap (λ n. take size (drop n (meeting q es))) c.start-2.ensures ∙ page_of_length q es size c.requires.order (c.page_len-size.ensures.entries (meeting q es) c.requires.total))))
    c.in_ok-found.ensures.entries

pub returns-clause-reads : goal.returns-clause-reads
returns-clause-reads g c =
    let q = c.args.plan.now in
    let es = g.E.Entries.entries c.args.entries.now in
    let long : length (page q es) ≡ c.page_len-size.result = ap length (plain_page q es c.requires.order) ∙ c.page_len-size.ensures.entries (meeting q es) c.requires.total in
    let few : c.min-limit.result ≤ c.args.total - length (page q es) = omega (arith, long, c.min-limit.ensures, c.saturating_sub-most.ensures) in
    reads_less _ _ _ _ few c.in_ok-found.ensures.reads

pub returns-in_err-found-clause-reads : goal.returns-in_err-found-clause-reads
returns-in_err-found-clause-reads g c =
    let q = c.args.plan.now in
    let es = g.E.Entries.entries c.args.entries.now in
    let long : length (page q es) ≡ c.page_len-size.result = ap length (plain_page q es c.requires.order) ∙ c.page_len-size.ensures.entries (meeting q es) c.requires.total in
    let few : c.min-limit.result ≤ c.args.total - length (page q es) = omega (arith, long, c.min-limit.ensures, c.saturating_sub-most.ensures) in
    reads_less _ _ _ _ few c.in_err-found.ensures.reads
