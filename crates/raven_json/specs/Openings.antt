-- The bytes that open a bracket.
use Rattle.std.specs.Prelude.{ℕ, Bool, ◌==◌, ◌||◌}

abbrev pub is_opening : ℕ → Bool
is_opening b = (b == 123) || (b == 91)
