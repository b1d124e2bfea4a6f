-- Numbers of few digits.
use Rattle.std.proofs.Common.{◌<◌, ◌≤◌, ◌+◌, ◌*◌, ◌^◌, ℕ, arith, add-one}
use Rattle.std.proofs.Math.Nat.{pow-suc, pow-le-pow_right}

-- one digit more
pub digit_more : (n d i : ℕ) → n < 10 ^ i → d < 10 → n * 10 + d < 10 ^ (i + 1)
digit_more n d i h k = rw add-one (omega (arith, pow-suc 10 i))

-- up to 16 digits fit in 64 bits
pub tenfold : (n i : ℕ) → n < 10 ^ i → i ≤ 15 → n * 10 + 9 < 2 ^ 64
tenfold n i h l = let p : 10 ^ i ≤ 10 ^ 15 = pow-le-pow_right (omega arith) l in omega arith

pub ruleset numbers = (digit_more)
