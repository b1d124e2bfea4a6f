use Rattle.std.proofs.Common.{◌≡◌, ℕ, List, IfOk, length, map, refl, ap, subst}
use Rattle.rql_eval.specs.Pages.{entries_of}
use Rattle.rql_eval.proofs.Paging.{cut_by, reads_same}
use Rattle.rql_eval.proofs.page.plain_page.Goals as goal

pub returns-clause-entries : goal.returns-clause-entries
returns-clause-entries g c =
    let cuts = cut_by c.args.plan.now c.start.result c.size.result c.args.ids.now c.args.ids.now c.cut.result.now c.cut.ensures c.start.ensures c.size.ensures refl in
    subst (λ (l : List (List ℕ)). IfOk c.entries_of.result (λ found. map (λ e. (e.0.now, e.1.now)) found.items ≡ entries_of (g.E.Entries.entries c.args.entries.now) l)) cuts c.entries_of.ensures.entries

pub returns-clause-reads : goal.returns-clause-reads
returns-clause-reads g c =
    let cuts = cut_by c.args.plan.now c.start.result c.size.result c.args.ids.now c.args.ids.now c.cut.result.now c.cut.ensures c.start.ensures c.size.ensures refl in
    reads_same _ _ _ _ (ap length cuts) c.entries_of.ensures.reads
