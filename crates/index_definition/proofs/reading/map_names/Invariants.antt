use Rattle.std.proofs.Common.{◌≡◌, take, map}
use Rattle.index_definition.proofs.reading.map_names.Given as goal

abbrev pub invariant-loop-member : goal.invariant-loop-member
invariant-loop-member l = l.names ≡ map (λ m. m.name) (take l.member-index l.members)
