use Rattle.std.proofs.Common.{◌≡◌, drop}
use Rattle.index_lang.specs.Fields as spec
use Rattle.index_lang.proofs.members.first_renamed.Given as goal

abbrev pub invariant-loop-placed : goal.invariant-loop-placed
invariant-loop-placed l = spec.first_renamed l.key l.members (drop l.placed-index l.members) ≡ spec.first_renamed l.key l.members l.members
