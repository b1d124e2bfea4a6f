-- Whole numbers of 64 bits. Where a result is outside them there is none.
use Rattle.std.specs.Prelude.{ℤ, pos, negsuc, ◌+ℤ◌, ◌-ℤ◌, ◌*ℤ◌, neg_ℤ, ◌^◌, int_div, int_rem, nat_lt, Bool, Option, Some, None, if◌then◌else◌}
use Rattle.std.specs.Ordering.{int_eq}

-- from -2^63 up to 2^63 - 1; `negsuc n` is -(n + 1)
abbrev pub is_within : ℤ → Bool
is_within (pos n) = nat_lt n (2 ^ 63)
is_within (negsuc n) = nat_lt n (2 ^ 63)

abbrev pub fitted : ℤ → Option ℤ
fitted n = if is_within n then Some n else None

abbrev pub sum : ℤ → ℤ → Option ℤ
sum m n = fitted (m +ℤ n)

abbrev pub difference : ℤ → ℤ → Option ℤ
difference m n = fitted (m -ℤ n)

abbrev pub product : ℤ → ℤ → Option ℤ
product m n = fitted (m *ℤ n)

-- cut towards zero
abbrev pub quotient : ℤ → ℤ → Option ℤ
quotient m n = if int_eq n (pos 0) then None else fitted (int_div m n)

-- with the sign of the dividend
abbrev pub remainder : ℤ → ℤ → Option ℤ
remainder m n = if int_eq n (pos 0) then None else fitted (int_rem m n)

abbrev pub negative : ℤ → Option ℤ
negative n = fitted (neg_ℤ n)
