-- Conditions on a value that tests decide.
use Rattle.std.specs.Prelude.{◌≡◌, List, [], ◌∷◌, Bool}
use Rattle.spec_data.specs.Scalars.{Scalar, Test, holds}

-- the tests have the same answers for both values; each test is there with whether it compares texts exactly
abbrev pub AreAlike : List (Test × Bool) → Scalar → Scalar → Type 0
AreAlike [] v w = Unit {0}
AreAlike (t ∷ ts) v w = (holds t.0 t.1 v ≡ holds t.0 t.1 w) × AreAlike ts v w

-- the condition has one answer for two values for which the tests have the same answers
abbrev pub Decide : List (Test × Bool) → (Scalar → Bool) → Type 0
Decide tests meets = (v w : Scalar) → AreAlike tests v w → meets v ≡ meets w
