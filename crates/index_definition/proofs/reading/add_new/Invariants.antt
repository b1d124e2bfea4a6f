use Rattle.std.proofs.Common.{◌≡◌, drop}
use Rattle.index_definition.specs.Adding.{with_new}
use Rattle.index_definition.proofs.reading.add_new.Given as goal

abbrev pub invariant-loop-name : goal.invariant-loop-name
invariant-loop-name l = with_new l.scope (drop l.name-index l.names) ≡ with_new l.initial.scope l.names
