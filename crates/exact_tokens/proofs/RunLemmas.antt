-- Bytes that pass a test.
use Rattle.std.proofs.Common.{◌≡◌, ◌<◌, ◌≤◌, ◌+◌, ℕ, suc, zero, List, [], ◌∷◌, length, take, drop, IsUtf8, arith, refl, add-one, Bool, true, false}
use Rattle.std.proofs.lemmas.Grind.{common_steps}
use Rattle.std.specs.Prelude.{if◌then◌else◌}
use Rattle.std.specs.List.{list_all}
use Rattle.exact_tokens.specs.Bytes.{is_name_byte}
use Rattle.exact_tokens.specs.Passes.{run}
use Rattle.exact_tokens.proofs.Seams.{behind_ascii}

module _ (test : ℕ → Bool) where
  le_by : (holds : Bool) (n l : ℕ) → n ≤ l → (if holds then n + 1 else 0) ≤ suc l
  le_by true n l h = omega arith
  le_by false n l h = omega arith

  pub run_le : (s : List ℕ) → run test s ≤ length s
  run_le [] = omega arith
  run_le (b ∷ bs) = le_by (test b) (run test bs) (length bs) (run_le bs)

  all_by : (holds : Bool) (b n : ℕ) (bs : List ℕ) → test b ≡ holds → list_all test (take n bs) ≡ true → list_all test (take (if holds then n + 1 else 0) (b ∷ bs)) ≡ true
  all_by true b n bs is h = rw (add-one, is) h
  all_by false b n bs is h = refl

  pub run_all : (s : List ℕ) → list_all test (take (run test s) s) ≡ true
  run_all [] = refl
  run_all (b ∷ bs) = all_by (test b) b (run test bs) bs refl (run_all bs)

  past_by : (holds : Bool) (b n m : ℕ) (bs : List ℕ) → test b ≡ holds → (n < m → list_all test (take m bs) ≡ false) → (if holds then n + 1 else 0) < suc m → list_all test (b ∷ take m bs) ≡ false
  past_by true b n m bs is f h = rw is (f (omega arith))
  past_by false b n m bs is f h = rw is refl

  pub run_past : (s : List ℕ) (m : ℕ) → run test s < m → m ≤ length s → list_all test (take m s) ≡ false
  run_past [] m h l = absurd (omega arith)
  run_past (b ∷ bs) zero h l = absurd (omega arith)
  run_past (b ∷ bs) (suc m) h l = past_by (test b) b (run test bs) m bs refl (λ k. run_past bs m k (omega arith)) h

  utf8_by : (holds : Bool) (b n : ℕ) (bs : List ℕ) → (holds ≡ true → b < 128) → IsUtf8 (b ∷ bs) → (IsUtf8 bs → IsUtf8 (drop n bs)) → IsUtf8 (drop (if holds then n + 1 else 0) (b ∷ bs))
  utf8_by true b n bs small u f = rw add-one (f (behind_ascii b bs (small refl) u))
  utf8_by false b n bs small u f = u

  pub run_utf8 : ((b : ℕ) → test b ≡ true → b < 128) → (s : List ℕ) → IsUtf8 s → IsUtf8 (drop (run test s) s)
  run_utf8 small [] u = u
  run_utf8 small (b ∷ bs) u = utf8_by (test b) b (run test bs) bs (small b) u (run_utf8 small bs)

-- one byte that passes, and those behind it
pub run_more : (test : ℕ → Bool) (b : ℕ) (bs : List ℕ) → test b ≡ true → run test (b ∷ bs) ≡ suc (run test bs)
run_more test b bs is = rw is (add-one (run test bs))

name_ascii : (b : ℕ) → is_name_byte b ≡ true → b < 128
name_ascii b h = grind (arith, common_steps)

pub name_fits : (s : List ℕ) → run is_name_byte s ≤ length s
name_fits s = run_le is_name_byte s

pub behind_name : (s : List ℕ) → IsUtf8 s → IsUtf8 (drop (run is_name_byte s) s)
behind_name s u = run_utf8 is_name_byte name_ascii s u

pub ruleset runs = (name_fits)
