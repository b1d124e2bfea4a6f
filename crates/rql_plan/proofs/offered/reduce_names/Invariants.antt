use Rattle.std.proofs.Common.{◌≡◌, map, take}
use Rattle.rql_plan.proofs.offered.reduce_names.Given as goal

abbrev pub invariant-loop-member : goal.invariant-loop-member
invariant-loop-member l = l.names ≡ map (λ m. m.name) (take l.member-index l.members)
