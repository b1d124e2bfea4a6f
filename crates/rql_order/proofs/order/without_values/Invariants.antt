use Rattle.std.proofs.Common.{◌≡◌, map}
use Rattle.rql_order.proofs.order.without_values.Given as goal

abbrev pub invariant-loop-rank : goal.invariant-loop-rank
invariant-loop-rank g l = l.rows.items ≡ map (λ p. p.1) l.yielded
