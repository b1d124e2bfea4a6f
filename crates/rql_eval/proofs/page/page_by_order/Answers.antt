use Rattle.std.proofs.Common.{◌≡◌, IfSome, false, filter, length, map, ap, subst, ◌∙◌}
use Rattle.spec_data.specs.Folding.{folded}
use Rattle.spec_query.specs.Condition.{meets}
use Rattle.spec_query.specs.Plan.{page}
use Rattle.rql_filter.specs.Entries.{ids_of}
use Rattle.rql_eval.specs.Pages.{entries_of}
use Rattle.rql_eval.proofs.OrderedPages.{page_of_ids, reads_few}
use Rattle.rql_eval.proofs.page.page_by_order.Goals as goal

pub returns-clause-page : goal.returns-clause-page
returns-clause-page g c =
    let q = c.args.plan.now in
    let es = g.E.Entries.entries c.args.entries.now in
    let known = subst (λ o. IfSome o (λ n. n ≡ length (filter (λ e. meets c.condition.result.now false e.1) es))) c.in-Some.is c.in_ok-total.ensures.count in
    let are = subst (λ o. IfSome o (λ ids. map folded ids ≡ map folded (ids_of (page q es)))) c.in-Some-2.is c.in_ok-ids.ensures in
    record {
      entries = c.in_ok-entries.ensures.entries ∙ (ap (entries_of es) c.as_slice.ensures ∙ page_of_ids q es c.in-Some-2.ids are c.in_ok-total.ensures.rising);
      total = known ∙ ap (λ k. length (filter (λ e. meets k false e.1) es)) c.condition.ensures;
    }

pub returns-clause-reads : goal.returns-clause-reads
returns-clause-reads g c =
    let q = c.args.plan.now in
    let es = g.E.Entries.entries c.args.entries.now in
    let are = subst (λ o. IfSome o (λ ids. map folded ids ≡ map folded (ids_of (page q es)))) c.in-Some-2.is c.in_ok-ids.ensures in
    reads_few q es c.in-Some-2.ids are c.as_slice.result.now _ _ c.as_slice.ensures c.in_ok-entries.ensures.reads

pub returns-in_err-entries-clause-reads : goal.returns-in_err-entries-clause-reads
returns-in_err-entries-clause-reads g c =
    let q = c.args.plan.now in
    let es = g.E.Entries.entries c.args.entries.now in
    let are = subst (λ o. IfSome o (λ ids. map folded ids ≡ map folded (ids_of (page q es)))) c.in-Some-2.is c.in_ok-ids.ensures in
    reads_few q es c.in-Some-2.ids are c.as_slice.result.now _ _ c.as_slice.ensures c.in_err-entries.ensures.reads
