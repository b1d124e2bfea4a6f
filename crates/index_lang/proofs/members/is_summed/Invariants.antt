use Rattle.std.proofs.Common.{◌≡◌, drop}
use Rattle.index_lang.specs.Fields as spec
use Rattle.index_lang.proofs.members.is_summed.Given as goal

abbrev pub invariant-loop-placed : goal.invariant-loop-placed
invariant-loop-placed l = spec.is_summed (drop l.placed-index l.members) l.field ≡ spec.is_summed l.members l.field
