use Rattle.std.proofs.Common.{◌≡◌, ◌+◌, rules, arith}
use Rattle.std.proofs.lemmas.Grind.{common_steps}
use Rattle.raven_turn.proofs.Growing.{grew_on, grew_join}
use Rattle.raven_tests.proofs.crew.gather.Goals as goal

pub loop-pass-preserved : goal.loop-pass-preserved
loop-pass-preserved g c =
    let was = c.loop-pass.invariant in
    let mine : (c.in-Some.pass.turn ≡ c.args.turn.now.turn) × (c.in-Some.pass.made ≡ c.in-Some.work.raised) = let h = was.2 0 c.in-Some.field-0 in grind rules in (
      search rules,
      grind (arith, common_steps, mine, was.1),
      (λ k d below. let h = was.2 (k + 1) d in grind rules),
      grew_on g.V.Grows.later c.args.rest c.loop-pass.all c.join-all.result was.3 (grew_join g.V.Grows.later c.loop-pass.all c.in-Some.field-0.pass c.join-all.result c.join-all.ensures),
    )
