use Rattle.std.proofs.Common.{◌≡◌, map}
use Rattle.index_lang.proofs.parsing.reduce_of.Given as goal

abbrev pub invariant-loop-placed : goal.invariant-loop-placed
invariant-loop-placed l = l.members ≡ map (λ p. p.member) l.yielded
