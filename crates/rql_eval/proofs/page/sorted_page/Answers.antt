use Rattle.std.proofs.Common.{ap, ◌∙◌, drop}
use Rattle.spec_query.specs.Plan.{up_to}
use Rattle.spec_query.specs.Sorting.{keys_order, sorted}
use Rattle.rql_eval.specs.Pages.{entries_of}
use Rattle.rql_eval.proofs.Paging.{are_meeting, no_reads, page_sorted, reads_of, total_is}
use Rattle.rql_eval.proofs.page.sorted_page.Goals as goal

pub returns-clause-page : goal.returns-clause-page
returns-clause-page g c =
    let q = c.args.plan.now in
    let entries = g.E.Entries.entries c.args.entries.now in
    let are = are_meeting q entries c.in_ok-ids.ids c.condition.result.now c.condition.ensures c.in_ok-ids.ensures.ids in
    record {
      entries =
          c.in_ok-entries.ensures.entries
          ∙ (ap (λ l. up_to q.size (drop q.start (sorted (λ a b. keys_order q.order a.1 b.1) (entries_of entries l)))) c.as_slice.ensures
          ∙ page_sorted q entries c.in_ok-ids.ids c.in_ok-ids.ensures.rising are);
      total = c.len-total.ensures ∙ total_is q entries c.in_ok-ids.ids are;
    }

pub returns-in_err-ids-clause-reads : goal.returns-in_err-ids-clause-reads
returns-in_err-ids-clause-reads g c = no_reads _ _

pub returns-clause-reads : goal.returns-clause-reads
returns-clause-reads g c =
    let q = c.args.plan.now in
    let entries = g.E.Entries.entries c.args.entries.now in
    reads_of q entries c.in_ok-ids.ids c.as_slice.result.now _ _ (are_meeting q entries c.in_ok-ids.ids c.condition.result.now c.condition.ensures c.in_ok-ids.ensures.ids) c.as_slice.ensures c.in_ok-entries.ensures.reads

pub returns-in_err-entries-clause-reads : goal.returns-in_err-entries-clause-reads
returns-in_err-entries-clause-reads g c =
    let q = c.args.plan.now in
    let entries = g.E.Entries.entries c.args.entries.now in
    reads_of q entries c.in_ok-ids.ids c.as_slice.result.now _ _ (are_meeting q entries c.in_ok-ids.ids c.condition.result.now c.condition.ensures c.in_ok-ids.ensures.ids) c.as_slice.ensures c.in_err-entries.ensures.reads
