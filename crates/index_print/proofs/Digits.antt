-- Printed digits are read as their number.
use Rattle.std.proofs.Common.{◌≡◌, ◌<◌, ◌≤◌, ◌+◌, ◌-◌, ◌*◌, ◌/◌, ◌%◌, ℕ, List, [], ◌∷◌, ◌++◌, length, arith, refl, ◌∙◌, ap, ap₂, Bool, true, pos}
use Rattle.std.proofs.lemmas.Grind.{common_steps}
use Rattle.std.proofs.lemmas.List.{length-append}
use Rattle.std.proofs.lemmas.List.Folds.{list_all-append}
use Rattle.std.proofs.lemmas.Fmt.{decimal_by_steps}
use Rattle.std.specs.Prelude.{◌&&◌}
use Rattle.std.specs.Fmt.{decimal}
use Rattle.std.specs.List.{list_all}
use Rattle.index_tokens.specs.declared.token.Token.TheVariants as t
use Rattle.exact_tokens.proofs.NumberLemmas.{small_enough}
use Rattle.index_tokens.specs.Spelling.{is_digit, max_number, number_from, number_or_bad, number_of}

abbrev pub AreDigits : ℕ → List ℕ → Type 0
AreDigits n digits = (list_all is_digit digits ≡ true) × (number_from 0 digits ≡ n) × (0 < length digits)

digit_of : (n : ℕ) → n < 10 → is_digit (48 + n) ≡ true
digit_of n h = grind (arith, common_steps)

last_digit : (k : ℕ) (digits : List ℕ) (b : ℕ) → number_from k (digits ++ b ∷ []) ≡ number_from k digits * 10 + (b - 48)
last_digit k [] b = refl
last_digit k (d ∷ digits) b = last_digit (k * 10 + (d - 48)) digits b

one : (n : ℕ) → n < 10 → AreDigits n ((48 + n) ∷ [])
one n h = (ap (λ d. d && true) (digit_of n h), omega arith, omega arith)

more : (n : ℕ) (digits : List ℕ) → 10 ≤ n → AreDigits (n / 10) digits → AreDigits n (digits ++ ((48 + n % 10) ∷ []))
more n digits h d = (
  list_all-append is_digit digits ((48 + n % 10) ∷ []) ∙ ap₂ (λ (x y : Bool). x && (y && true)) d.0 (digit_of (n % 10) (omega arith)),
  last_digit 0 digits (48 + n % 10) ∙ omega (arith, d.1),
  omega (arith, length-append digits ((48 + n % 10) ∷ [])),
)

pub digits : (n : ℕ) → n ≤ max_number → AreDigits n (decimal n)
digits n h = decimal_by_steps AreDigits one more n (omega arith)

pub number_is : (n : ℕ) → n ≤ max_number → number_of (decimal n) ≡ t.Number (pos n)
number_is n h = ap number_or_bad (small_enough max_number (decimal n) [] n ((digits n h).1) refl h)
