-- Numbers that digits write.
use Rattle.std.proofs.Common.{◌≡◌, ◌<◌, ◌≤◌, ◌+◌, ◌*◌, ◌-◌, ℕ, List, [], ◌∷◌, Some, None, arith, lt-ltb, refl, ◌∙◌, ap}
use Rattle.std.proofs.lemmas.Grind.{common_steps}
use Rattle.std.specs.Prelude.{nat_lt, false, if◌then◌else◌}
use Rattle.exact_tokens.specs.Bytes.{number_from, magnitude}

-- further digits make no number less
grows : (n : ℕ) (bs : List ℕ) → n ≤ number_from n bs
grows n [] = omega arith
grows n (b ∷ bs) = let more = grows (n * 10 + (b - 48)) bs in omega (arith, more)

none_above : (most n : ℕ) → most < n → (if nat_lt most n then None else Some n) ≡ None
none_above most n h = rw (lt-ltb most n h) refl

some_below : (most n : ℕ) → n ≤ most → (if nat_lt most n then None else Some n) ≡ Some n
some_below most n h = let e : nat_lt most n ≡ false = grind (arith, common_steps) in rw e refl

pub too_great : (most : ℕ) (digits rest bs : List ℕ) (n b : ℕ) → number_from 0 digits ≡ number_from n rest → rest ≡ b ∷ bs → most < n * 10 + (b - 48) → magnitude most digits ≡ None
too_great most digits rest bs n b e is h =
    let same : number_from 0 digits ≡ number_from (n * 10 + (b - 48)) bs = e ∙ ap (number_from n) is in
    none_above most (number_from 0 digits) (rw same (let more = grows (n * 10 + (b - 48)) bs in omega (arith, more)))

pub small_enough : (most : ℕ) (digits rest : List ℕ) (n : ℕ) → number_from 0 digits ≡ number_from n rest → rest ≡ [] → n ≤ most → magnitude most digits ≡ Some n
small_enough most digits rest n e is h = let same : number_from 0 digits ≡ n = e ∙ ap (number_from n) is in rw same (some_below most n h)

pub ruleset magnitudes = (too_great, small_enough)
