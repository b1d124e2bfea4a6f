-- Which terms are in the order of their values.
use Rattle.std.specs.Prelude.{◌≡◌, ℕ, List, [], ◌∷◌, Bool, true, false, not}
use Rattle.spec_data.specs.Scalars.{Scalar, nothing, number, words}

-- an order of numbers compares numbers, and an order of texts compares texts
abbrev pub is_of_order : Bool → Scalar → Bool
is_of_order long (number n) = long
is_of_order long (words s) = not long
is_of_order long other = false

-- these, and null before them, are compared as their terms are
abbrev pub is_in_line : Bool → Scalar → Bool
is_in_line long nothing = true
is_in_line long v = is_of_order long v

-- all values that meet a condition are
abbrev pub AreInLine : (Scalar → Bool) → Bool → List (List ℕ × Scalar) → Type 0
AreInLine meets long [] = Unit {0}
AreInLine meets long (e ∷ es) = (meets e.1 ≡ true → is_in_line long e.1 ≡ true) × AreInLine meets long es

-- all values are
abbrev pub AllInLine : Bool → List (List ℕ × Scalar) → Type 0
AllInLine long es = AreInLine (λ v. true) long es
