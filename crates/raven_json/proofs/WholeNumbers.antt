-- Whole numbers of 64 bits, as the numbers of `serde_json`.
use Rattle.std.proofs.Common.{◌≡◌, ◌≢◌, ℕ, zero, suc, ◌^◌, ◌<◌, ◌≤◌, ℤ, pos, neg_ℤ, List, true, false, ◌==◌, length, drop, Option, Some, None, IfSome, option_and_then, refl, lt-ltb, arith, FitsSigned, w64}
use Rattle.std.proofs.lemmas.Bool.{le-leb}
use Rattle.std.specs.Prelude.{slice_index}
use Rattle.fast_float.specs.Text.{Parts, scan, digits_of, with_sign, IsInteger}
use Rattle.serde_json.specs.Find.{as_i64}
use Rattle.serde_json.specs.Read.{number_from, number_of}
use Rattle.raven_json.specs.Whole.{whole_number}

pub from_zero : (p : Parts) → IsInteger p → FitsSigned w64 (with_sign false (digits_of p)) → option_and_then as_i64 (number_from false p) ≡ Some (with_sign false (digits_of p))
from_zero p is fits = rw (lt-ltb 0 (length p.whole) is.0, is.1, is.2, lt-ltb (digits_of p) (2 ^ 64) (omega (arith, fits.sfits)), lt-ltb (digits_of p) (2 ^ 63) (omega (arith, fits.sfits))) refl

some : (n : ℕ) → neg_ℤ (pos n) ≢ pos 0 → 0 < n
some zero h = absurd (h refl)
some (suc n) h = omega arith

fits-le : (n : ℕ) → FitsSigned w64 (neg_ℤ (pos n)) → n ≤ 2 ^ 63
fits-le zero h = omega arith
fits-le (suc n) h = omega (arith, h.sfits)

pub below_zero : (p : Parts) → IsInteger p → FitsSigned w64 (with_sign true (digits_of p)) → with_sign true (digits_of p) ≢ pos 0 → option_and_then as_i64 (number_from true p) ≡ Some (with_sign true (digits_of p))
below_zero p is fits not_zero =
    rw (lt-ltb 0 (length p.whole) is.0, is.1, is.2, lt-ltb 0 (digits_of p) (some (digits_of p) not_zero), le-leb (digits_of p) (2 ^ 63) (fits-le (digits_of p) fits)) refl

pub with_minus : (s : List ℕ) (found : Option ℤ) → (slice_index s 0 == 45) ≡ true → IfSome found (λ z. option_and_then as_i64 (number_from true (scan (drop 1 s))) ≡ Some z) → IfSome found (λ z. whole_number s ≡ Some z)
unfolding number_of
with_minus s None h e = tt
with_minus s (Some z) h e = rw h e

pub without_minus : (s : List ℕ) (found : Option ℤ) → (slice_index s 0 == 45) ≡ false → IfSome found (λ z. option_and_then as_i64 (number_from false (scan s)) ≡ Some z) → IfSome found (λ z. whole_number s ≡ Some z)
unfolding number_of
without_minus s None h e = tt
without_minus s (Some z) h e = rw h e

pub ruleset whole_numbers = (from_zero, below_zero)
