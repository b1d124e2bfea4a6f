use Rattle.std.proofs.Common.{◌≡◌, length}
use Rattle.spec_data.specs.Folding.{folded, key_cmp}
use Rattle.raven_value.proofs.folded.cmp_by_byte.Given as goal

-- the rests compare as the wholes do
abbrev pub invariant-loop-left : goal.invariant-loop-left
invariant-loop-left l = key_cmp (folded l.left) (folded l.right) ≡ key_cmp (folded l.a) (folded l.b)

abbrev pub decreases-loop-left : goal.decreases-loop-left
decreases-loop-left l = length l.left
