use Rattle.std.proofs.Common.{◌≡◌, map}
use Rattle.index_grammar.proofs.spelled.SpelledMap.into_query.Given as goal

abbrev pub invariant-loop-placed : goal.invariant-loop-placed
invariant-loop-placed l = l.members ≡ map (λ placed. placed.member) l.yielded
