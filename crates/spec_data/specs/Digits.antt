-- Numbers in digits.
use Rattle.std.specs.Prelude.{ℕ, ◌+◌, ◌-◌, ◌*◌, List, [], ◌∷◌, Bool, ◌&&◌, nat_le, nat_lt, if◌then◌else◌, Option, Some, None, length}
use Rattle.std.specs.List.{list_all}

abbrev pub is_digit : ℕ → Bool
is_digit b = nat_le 48 b && nat_le b 57

-- the number whose digits are those of n and then these
abbrev pub number_from : ℕ → List ℕ → ℕ
number_from n [] = n
number_from n (b ∷ bs) = number_from (n * 10 + (b - 48)) bs

-- the number that a text of 1 to `most` digits spells
abbrev pub number_up_to : ℕ → List ℕ → Option ℕ
number_up_to most text = if nat_lt 0 (length text) && nat_le (length text) most && list_all is_digit text then Some (number_from 0 text) else None
