-- Bytes of numbers.
use Rattle.std.proofs.Common.{◌≡◌, ◌<◌, ◌≤◌, ◌+◌, ℕ, List, [], ◌∷◌, length, take, drop, IsUtf8, arith, refl, sym, subst, ap, ◌∙◌, add-one, Some, None, true, false}
use Rattle.std.proofs.lemmas.Grind.{common_steps}
use Rattle.std.specs.Prelude.{if◌then◌else◌}
use Rattle.exact_tokens.specs.Bytes.{is_digit}
use Rattle.exact_tokens.specs.Passes.{run}
use Rattle.exact_tokens.proofs.RunLemmas.{run_le, run_utf8}
use Rattle.exact_tokens.proofs.Seams.{behind_ascii, behind_all}
use Rattle.rql_tokens.specs.declared.token.Token.TheVariants as t
use Rattle.rql_tokens.specs.Spelling.{negative, is_number_byte}
use Rattle.rql_tokens.specs.Passes.{negative_prefix}

number_ascii : (b : ℕ) → is_number_byte b ≡ true → b < 128
number_ascii b h = grind (arith, common_steps)

pub number_fits : (s : List ℕ) → run is_number_byte s ≤ length s
number_fits s = run_le is_number_byte s

pub behind_number : (s : List ℕ) → IsUtf8 s → IsUtf8 (drop (run is_number_byte s) s)
behind_number s u = run_utf8 is_number_byte number_ascii s u

pub ruleset runs = (number_fits)

-- ---- behind `-`

pub negative_none : (s behind : List ℕ) → behind ≡ [] → negative_prefix s behind ≡ (t.Bad, length s)
negative_none s behind is = ap (negative_prefix s) is

pub negative_other : (s behind bs : List ℕ) (b : ℕ) → behind ≡ b ∷ bs → is_digit b ≡ false → negative_prefix s behind ≡ (t.Bad, length s)
negative_other s behind bs b is digit = ap (negative_prefix s) is ∙ rw digit refl

pub negative_digits : (s behind bs : List ℕ) (b : ℕ) → behind ≡ b ∷ bs → is_digit b ≡ true →
    negative_prefix s behind ≡ (negative (take (run is_number_byte behind) behind), run is_number_byte behind + 1)
negative_digits s behind bs b is digit = ap (negative_prefix s) is ∙ at ∙ ap (λ z. (negative (take (run is_number_byte z) z), run is_number_byte z + 1)) (sym is)
  where
    at : negative_prefix s (b ∷ bs) ≡ (negative (take (run is_number_byte (b ∷ bs)) (b ∷ bs)), run is_number_byte (b ∷ bs) + 1)
    at = rw digit refl

pub behind_minus : (s behind : List ℕ) (n : ℕ) → s ≡ 45 ∷ behind → (IsUtf8 behind → IsUtf8 (drop n behind)) → IsUtf8 s → IsUtf8 (drop (n + 1) s)
behind_minus s behind n is rest u = subst (λ z. IsUtf8 (drop (n + 1) z)) (sym is) (rw add-one (rest (behind_ascii 45 behind (omega arith) (subst IsUtf8 is u))))

pub ruleset negatives = (negative_none, negative_other, negative_digits, behind_minus, behind_all)
