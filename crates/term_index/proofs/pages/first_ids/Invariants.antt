use Rattle.std.proofs.Common.{◌≡◌, ◌++◌, map, take}
use Rattle.spec_data.specs.Folding.{folded}
use Rattle.term_index.specs.Held.{held}
use Rattle.term_index.proofs.pages.first_ids.Given as goal

-- the ids so far and those that are left
abbrev pub invariant-loop-pair : goal.invariant-loop-pair
invariant-loop-pair l = map folded l.ids ++ map (λ e. e.0) (take l.left (held l.pair-iterator)) ≡ map (λ e. e.0) (take l.size (held l.fn.terms))
