use Rattle.std.proofs.Common.{◌≡◌, map}
use Rattle.rql_order.specs.Values.{with_values}
use Rattle.rql_order.proofs.order.with_values.Given as goal

abbrev pub invariant-loop-row : goal.invariant-loop-row
invariant-loop-row g l = map (λ p. (p.0.items, p.1)) l.all.items ≡ map (with_values l.keys) l.yielded
