use Rattle.std.proofs.Common.{◌≡◌, drop, []}
use Rattle.index_definition.specs.Reading as spec
use Rattle.index_definition.proofs.reading.put_all.Given as goal

abbrev pub invariant-loop-name : goal.invariant-loop-name
invariant-loop-name l = spec.put_all (drop l.name-index l.names) l.members ≡ spec.put_all l.names []
