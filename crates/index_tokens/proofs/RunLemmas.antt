-- Digits.
use Rattle.std.proofs.Common.{◌≡◌, ◌<◌, ◌≤◌, ℕ, List, length, drop, IsUtf8, arith, true}
use Rattle.std.proofs.lemmas.Grind.{common_steps}
use Rattle.exact_tokens.specs.Bytes.{is_digit}
use Rattle.exact_tokens.specs.Passes.{run}
use Rattle.exact_tokens.proofs.RunLemmas.{run_le, run_utf8}

digit_ascii : (b : ℕ) → is_digit b ≡ true → b < 128
digit_ascii b h = grind (arith, common_steps)

pub digits_fit : (s : List ℕ) → run is_digit s ≤ length s
digits_fit s = run_le is_digit s

pub behind_digits : (s : List ℕ) → IsUtf8 s → IsUtf8 (drop (run is_digit s) s)
behind_digits s u = run_utf8 is_digit digit_ascii s u

pub ruleset runs = (digits_fit)
