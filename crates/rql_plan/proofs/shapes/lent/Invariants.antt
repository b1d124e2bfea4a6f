use Rattle.std.proofs.Common.{◌≡◌, map, take}
use Rattle.rql_plan.proofs.shapes.lent.Given as goal

abbrev pub invariant-loop-path : goal.invariant-loop-path
invariant-loop-path l = map (λ p. p.now) l.all.items ≡ take l.path-index l.paths
