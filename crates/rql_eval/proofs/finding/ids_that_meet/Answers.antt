use Rattle.std.proofs.Common.{ap, ◌∙◌, map, [], None}
use Rattle.spec_query.specs.Plan.{Plan}
use Rattle.rql_eval.specs.Pages.{entries_of}
use Rattle.rql_eval.proofs.Finds.{ids_in}
use Rattle.rql_eval.proofs.Paging.{all_read}
use Rattle.rql_eval.proofs.finding.ids_that_meet.Goals as goal

pub returns-clause-ids : goal.returns-clause-ids
returns-clause-ids g c =
    let entries = g.E.Entries.entries c.args.entries.now in
    let q : Plan = record { condition = c.args.condition.now; order = []; columns = []; includes = []; start = 0; size = None } in
    c.in_ok-ids.ensures
    ∙ (ap (λ l. map (λ e. e.0.now) l) c.deref.ensures.value
    ∙ (ids_in c.in_ok-found.found.items
    ∙ ap (map (λ e. e.0)) (c.in_ok-found.ensures.entries ∙ (ap (entries_of entries) c.as_slice.ensures ∙ all_read q entries c.in_ok-met.met c.in_ok-met.ensures.rising c.in_ok-met.ensures.ids))))
