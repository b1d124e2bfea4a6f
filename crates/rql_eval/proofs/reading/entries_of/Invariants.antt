use Rattle.std.proofs.Common.{◌≡◌, ◌++◌, map, drop}
use Rattle.rql_eval.specs.Pages.{ReadsAtMost, entries_of}
use Rattle.rql_eval.proofs.reading.entries_of.Given as goal

abbrev pub invariant-loop-id : goal.invariant-loop-id
invariant-loop-id g l = record {
  entries : map (λ e. (e.0.now, e.1.now)) l.found.items ++ entries_of (g.E.Entries.entries l.entries) (drop l.id-index l.ids) ≡ entries_of (g.E.Entries.entries l.entries) l.ids;
  reads : ReadsAtMost l.id-index l.fn.steps l.steps;
}
