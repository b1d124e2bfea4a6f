use Rattle.std.proofs.Common.{◌≡◌, take, map}
use Rattle.index_definition.proofs.reading.names_of.Given as goal

abbrev pub invariant-loop-member : goal.invariant-loop-member
invariant-loop-member l = l.names ≡ map (λ m. m.0) (take l.member-index l.members)
