use Rattle.std.proofs.Common.{◌≡◌, take, drop}
use Rattle.index_lang.specs.Fields as spec
use Rattle.index_lang.proofs.members.duplicate.Given as goal

abbrev pub invariant-loop-index : goal.invariant-loop-index
invariant-loop-index g l = spec.duplicate_after g.F.Field.label g.F.Field.place (take l.index l.members) (drop l.index l.members) ≡ spec.duplicate g.F.Field.label g.F.Field.place l.members
