use Rattle.std.proofs.Common.{◌≡◌, vec_len}
use Rattle.raven_crew.proofs.each.words_to_go.Given as goal

abbrev pub invariant-loop : goal.invariant-loop
invariant-loop l = vec_len l.words ≡ l.counter
