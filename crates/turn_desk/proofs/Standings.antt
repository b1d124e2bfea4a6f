-- How a desk over a turn goes on.
use Rattle.std.proofs.Common.{◌≡◌, refl, subst}
use Rattle.raven_turn.specs.Passes.{Knowledge}
use Rattle.spec_desk.specs.Lived.{Lived}
use Rattle.spec_desk.specs.Receipts.{GoesOn, Onward}
use Rattle.turn_desk.specs.Seated.{Seated, stands_at, stands_seated}

-- its pass goes on, and its clock stays
pub goes_on : (inside d : Seated) (pass : Knowledge Lived) → inside ≡ d → Onward inside.pass.seen pass.seen → GoesOn (stands_seated d) (stands_at inside.moment pass)
goes_on inside d pass e onward = subst (λ (x : Seated). GoesOn (stands_seated x) (stands_at inside.moment pass)) e (record { onward = onward; clock = refl; pump = refl })
