use Rattle.std.proofs.Common.{◌≡◌, drop}
use Rattle.index_lang.specs.Fields as spec
use Rattle.std.specs.List.{list_any}
use Rattle.index_lang.proofs.members.is_given.Given as goal

abbrev pub invariant-loop-placed : goal.invariant-loop-placed
invariant-loop-placed l = list_any (λ m. spec.gives_part l.part m.member.value) (drop l.placed-index l.members) ≡ list_any (λ m. spec.gives_part l.part m.member.value) l.members
