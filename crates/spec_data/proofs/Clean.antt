-- Texts without control characters, decimals among them, are fit.
use Rattle.std.proofs.Common.{◌≡◌, ◌<◌, ◌≤◌, ◌^◌, ◌+◌, ◌%◌, ℕ, List, [], ◌∷◌, ◌++◌, length, Bool, true, false, cond, Option, Some, None, refl, ap, ◌∙◌, arith}
use Rattle.std.proofs.lemmas.Grind.{common_steps}
use Rattle.std.specs.Prelude.{◌==◌, nat_lt, option_map, if◌then◌else◌}
use Rattle.std.specs.Fmt.{decimal}
use Rattle.std.proofs.lemmas.Fmt.{decimal_by_steps, length-decimal-le}
use Rattle.std.specs.List.{position_from}
use Rattle.spec_data.specs.Faults.{empty, too_long, control, fault_of, is_control}

-- without control characters
abbrev pub IsClean : List ℕ → Type 0
IsClean [] = Unit {0}
IsClean (b ∷ bs) = (is_control b ≡ false) × IsClean bs

pub clean-append : (xs ys : List ℕ) → IsClean xs → IsClean ys → IsClean (xs ++ ys)
clean-append [] ys h g = g
clean-append (x ∷ xs) ys h g = (h.0, clean-append xs ys h.1 g)

digit_is_clean : (b : ℕ) → 48 ≤ b → b ≤ 57 → is_control b ≡ false
digit_is_clean b low high = grind (arith, common_steps)

pub clean-decimal : (n : ℕ) → n < 2 ^ 64 → IsClean (decimal n)
clean-decimal = decimal_by_steps (λ n ds. IsClean ds)
    (λ n lt. (digit_is_clean (48 + n) (omega arith) (omega arith), tt))
    (λ n ds ge h. clean-append ds ((48 + n % 10) ∷ []) h (digit_is_clean (48 + n % 10) (omega arith) (omega arith), tt))

pub few-decimal : (n : ℕ) → n < 2 ^ 64 → length (decimal n) ≤ 20
few-decimal n lt = length-decimal-le 20 n (omega arith) (omega arith) lt

no_control : (i : ℕ) (s : List ℕ) → IsClean s → position_from is_control i s ≡ None
no_control i [] h = refl
no_control i (b ∷ s) h = ap (λ c. cond c (Some i) (position_from is_control (i + 1) s)) h.0 ∙ no_control (i + 1) s h.1

faultless_by : (a b : Bool) (n : ℕ) (r : Option ℕ) → a ≡ false → b ≡ false → r ≡ None → (if a then Some empty else (if b then Some (too_long n) else option_map control r)) ≡ None
faultless_by true b n r p q h = absurd cc
faultless_by false true n r p q h = absurd cc
faultless_by false false n r p q h = ap (option_map control) h

some_bytes : (s : List ℕ) → 0 < length s → (length s == 0) ≡ false
some_bytes s h = grind (arith, common_steps)

few_bytes : (limit : ℕ) (s : List ℕ) → length s ≤ limit → nat_lt limit (length s) ≡ false
few_bytes limit s h = grind (arith, common_steps)

pub faultless : (limit : ℕ) (s : List ℕ) → IsClean s → 0 < length s → length s ≤ limit → fault_of limit s ≡ None
faultless limit s h some few =
    faultless_by (length s == 0) (nat_lt limit (length s)) (length s) (position_from is_control 0 s) (some_bytes s some) (few_bytes limit s few) (no_control 0 s h)
