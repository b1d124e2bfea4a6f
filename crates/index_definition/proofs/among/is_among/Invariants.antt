use Rattle.std.proofs.Common.{◌≡◌, drop}
use Rattle.index_definition.specs.Adding.{is_among as spec_is_among}
use Rattle.index_definition.proofs.among.is_among.Given as goal

abbrev pub invariant-loop-other : goal.invariant-loop-other
invariant-loop-other l = spec_is_among (drop l.other-index l.key) l.part ≡ spec_is_among l.key l.part
