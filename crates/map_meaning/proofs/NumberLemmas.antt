use Rattle.std.proofs.Common.{◌≡◌, ◌↔◌, ◌^◌, ℤ, pos, negsuc, true, ltb-true, lt-ltb, FitsSigned, w64}
use Rattle.index_tree.specs.Numbers.{is_within}

pub within-fits : (n : ℤ) → (is_within n ≡ true) ↔ FitsSigned w64 n
within-fits (pos n) = (λ h. record { sfits = ltb-true n (2 ^ 63) h }, λ f. lt-ltb n (2 ^ 63) f.sfits)
within-fits (negsuc n) = (λ h. record { sfits = ltb-true n (2 ^ 63) h }, λ f. lt-ltb n (2 ^ 63) f.sfits)
