use Rattle.std.proofs.Common.{◌≡◌, ◌≤◌, ◌+◌}
use Rattle.raven_tests.proofs.shift.take_turns.Given as goal

abbrev pub invariant-loop : goal.invariant-loop
invariant-loop g l =
    (l.pass.turn ≡ l.initial.pass.turn) × (l.pass.shares ≡ l.initial.pass.shares) × (l.pass.made ≡ l.initial.pass.made + l.raised)
    × (l.raised ≤ l.counter) × (l.looked ≤ l.counter)
