use Rattle.std.proofs.Common.{◌≡◌, ◌+◌, All, sum_by}
use Rattle.std.specs.Vec.Iter.{into_iter_items}
use Rattle.raven_turn.specs.Passes.{Grew}
use Rattle.raven_tests.proofs.crew.gather.Given as goal

abbrev pub invariant-loop-pass : goal.invariant-loop-pass
invariant-loop-pass g l =
    (l.all.turn ≡ l.turn.turn) × (l.all.made ≡ l.fn.rest.made + sum_by (λ w. w.raised) l.works.items)
    × All (λ r. (r.pass.turn ≡ l.turn.turn) × (r.pass.made ≡ r.work.raised)) (into_iter_items l.pass-iterator)
    × Grew g.V.Grows.later l.fn.rest l.all
