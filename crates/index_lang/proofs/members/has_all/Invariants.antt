use Rattle.std.proofs.Common.{◌≡◌, drop}
use Rattle.std.specs.List.{list_all}
use Rattle.index_lang.specs.Fields as spec
use Rattle.index_lang.proofs.members.has_all.Given as goal

abbrev pub invariant-loop-member : goal.invariant-loop-member
invariant-loop-member g l = list_all (λ m. spec.has_name g.B.Field.label g.B.Field.place l.others (g.A.Field.label m)) (drop l.member-index l.members) ≡ list_all (λ m. spec.has_name g.B.Field.label g.B.Field.place l.others (g.A.Field.label m)) l.members
