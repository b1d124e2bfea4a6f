use Rattle.std.proofs.Common.{◌≡◌, ◌++◌, drop, flat_map}
use Rattle.index_tree.specs.Scope as meaning
use Rattle.index_definition.proofs.reading.add_members.Given as goal

abbrev pub invariant-loop-member : goal.invariant-loop-member
invariant-loop-member l = l.names ++ flat_map (λ m. meaning.named_in m.value) (drop l.member-index l.members) ≡ l.initial.names ++ flat_map (λ m. meaning.named_in m.value) l.members
