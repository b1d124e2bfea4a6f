use Rattle.std.proofs.Common.{◌≡◌, map, take}
use Rattle.spec_query.specs.Binding.{key_of}
use Rattle.rql_plan.proofs.plan.order_of.Given as goal

abbrev pub invariant-loop-sort : goal.invariant-loop-sort
invariant-loop-sort l = l.keys ≡ map key_of (take l.sort-index l.sorts)
