use Rattle.std.proofs.Common.{◌≡◌, ◌+◌, ◌*◌, All}
use Rattle.raven_tests.proofs.crew.shifts.Given as goal

abbrev pub invariant-loop-tag : goal.invariant-loop-tag
invariant-loop-tag g l =
    (l.rest.turn ≡ l.turn.turn) × (l.rest.turn ≡ l.initial.rest.turn) × (l.rest.made ≡ l.initial.rest.made) × (l.rest.seen ≡ l.initial.rest.seen)
    × (l.rest.shares + l.tag * 2 ≡ l.crew * 2 + 1)
    × All (λ s. (s.pass.turn ≡ l.turn.turn) × (s.pass.made ≡ 0)) l.shifts.items
