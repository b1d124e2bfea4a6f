use Rattle.std.proofs.Common.{◌≡◌, ◌+◌, ◌≤◌, false, drop, filter, map, option_map, take}
use Rattle.spec_data.specs.Folding.{folded}
use Rattle.spec_query.specs.Condition.{meets}
use Rattle.rql_eval.proofs.Walking.{IsPage}
use Rattle.rql_eval.proofs.walk.walked.Given as goal

abbrev pub invariant-loop-want : goal.invariant-loop-want
invariant-loop-want g l = record {
  page :
      IsPage (λ e. meets l.condition false e.1) (g.E.Entries.entries l.entries) (take l.size (drop l.start (filter (λ e. meets l.condition false e.1) (g.E.Entries.entries l.entries))))
      (map (λ e. (e.0.now, e.1.now)) l.found.items) l.want l.skip (option_map (λ i. folded i.now) l.last);
  reads : l.steps.reads + l.left ≤ l.fn.steps.reads + l.most;
  maps : l.steps.maps ≡ l.fn.steps.maps;
  merges : l.steps.merges ≡ l.fn.steps.merges;
}

abbrev pub decreases-loop-want : goal.decreases-loop-want
decreases-loop-want g l = l.left
