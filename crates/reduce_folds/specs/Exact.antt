-- Which sums are exact.
use Rattle.std.specs.Prelude.{ℕ, ◌+◌, ◌≤◌, List, [], ◌∷◌}
use Rattle.std.specs.Int.RustNames.{unsigned_abs}
use Rattle.spec_data.specs.Scalars.{Scalar}
use Rattle.spec_index.specs.Folds.{addend}

-- each number among the values is of 64 bits
abbrev pub AreWords : List Scalar → Type 0
AreWords [] = Unit {0}
AreWords (v ∷ vs) = (unsigned_abs (addend v) ≤ 9223372036854775808) × AreWords vs

-- the sizes of the numbers, together
abbrev pub sizes : List Scalar → ℕ
sizes [] = 0
sizes (v ∷ vs) = unsigned_abs (addend v) + sizes vs
