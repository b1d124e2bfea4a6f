-- The draws of the generator: the same seed draws the same numbers.
use Rattle.std.specs.Prelude.{ℕ, zero, suc, ◌*◌, ◌%◌}

-- the draw that follows x
abbrev pub next : ℕ → ℕ
next x = x * 48271 % 2147483647

-- the n-th draw; before the first there is the seed
abbrev pub draw : ℕ → ℕ → ℕ
draw seed zero = seed
draw seed (suc n) = next (draw seed n)
