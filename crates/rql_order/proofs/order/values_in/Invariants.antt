use Rattle.std.proofs.Common.{◌≡◌, ◌++◌, drop}
use Rattle.rql_order.specs.Values.{sort_values}
use Rattle.rql_order.proofs.order.values_in.Given as goal

abbrev pub invariant-loop-key : goal.invariant-loop-key
invariant-loop-key l = l.values.items ++ sort_values (drop l.key-index l.keys) l.entry ≡ sort_values l.keys l.entry
