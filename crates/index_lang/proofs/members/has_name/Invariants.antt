use Rattle.std.proofs.Common.{◌≡◌, drop}
use Rattle.index_lang.specs.Fields as spec
use Rattle.index_lang.proofs.members.has_name.Given as goal

abbrev pub invariant-loop-member : goal.invariant-loop-member
invariant-loop-member g l = spec.has_name g.F.Field.label g.F.Field.place (drop l.member-index l.members) l.name ≡ spec.has_name g.F.Field.label g.F.Field.place l.members l.name
